-- `commands::read_serial` meets its contract: what is built is the frame that asks for the serial. Assumes nothing.
use Rattle.frames.specs.Commands.{ask_serial, bracketed}
use Rattle.frames.specs.Frames.{frame_of, sealed}
use Rattle.commands.proofs.read_serial.Goals as goal

pub returns : goal.returns
unfolding frame_of sealed ask_serial bracketed
returns c = c.build.ensures
