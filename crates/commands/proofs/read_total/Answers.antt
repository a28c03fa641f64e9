-- `commands::read_total` meets its contract: what is built is the frame that asks for the total. Assumes nothing.
use Rattle.frames.specs.Commands.{ask_energy, bracketed}
use Rattle.frames.specs.Frames.{frame_of, sealed}
use Rattle.commands.proofs.read_total.Goals as goal

pub returns : goal.returns
unfolding frame_of sealed ask_energy bracketed
returns c = c.build.ensures
