-- `commands::enter` meets its contract: what is built is P1 with empty brackets. Assumes nothing.
use Rattle.frames.specs.Commands.{bracketed}
use Rattle.frames.specs.Session.{enter_data}
use Rattle.frames.specs.Frames.{frame_of, sealed}
use Rattle.commands.proofs.enter.Goals as goal

pub returns : goal.returns
unfolding frame_of sealed enter_data bracketed
returns c = c.build.ensures
