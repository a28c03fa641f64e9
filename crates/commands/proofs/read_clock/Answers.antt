-- `commands::read_clock` meets its contract: what is built is the frame that asks for the clock. Assumes nothing.
use Rattle.frames.specs.Commands.{ask_clock, bracketed}
use Rattle.frames.specs.Frames.{frame_of, sealed}
use Rattle.commands.proofs.read_clock.Goals as goal

pub returns : goal.returns
unfolding frame_of sealed ask_clock bracketed
returns c = c.build.ensures
