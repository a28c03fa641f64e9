-- `commands::read_account` meets its contract: what is built is the frame that asks for the account. Assumes nothing.
use Rattle.frames.specs.Commands.{ask_account, bracketed}
use Rattle.frames.specs.Frames.{frame_of, sealed}
use Rattle.commands.proofs.read_account.Goals as goal

pub returns : goal.returns
unfolding frame_of sealed ask_account bracketed
returns c = c.build.ensures
