-- `commands::read_total_out` meets its contract: what is built is the frame that asks for the total of what went out. Assumes nothing.
use Rattle.frames.specs.Commands.{ask_export, bracketed}
use Rattle.frames.specs.Frames.{frame_of, sealed}
use Rattle.commands.proofs.read_total_out.Goals as goal

pub returns : goal.returns
unfolding frame_of sealed ask_export bracketed
returns c = c.build.ensures
