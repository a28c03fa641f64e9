-- `session::turning::is_right_read` meets its contract: a read that can be built, and its answer. Assumes nothing.
use Rattle.session.specs.Turns.{right_read}
use Rattle.session.proofs.turning.is_right_read.Goals as goal

pub returns : goal.returns
unfolding right_read
returns c = rw (c.read_good.ensures, c.is_answer.ensures)
