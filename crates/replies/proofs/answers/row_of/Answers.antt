-- `replies::answers::row_of` meets its contract: what is dropped and what is taken. Assumes nothing.
use Rattle.replies.specs.Shown.{row_of}
use Rattle.replies.proofs.answers.row_of.Goals as goal

pub returns : goal.returns
unfolding row_of
returns c = rw (c.first.ensures.result_value, c.rest.ensures.result_value, c.row_start.ensures)
