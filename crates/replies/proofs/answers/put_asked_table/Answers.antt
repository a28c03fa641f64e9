-- `replies::answers::put_asked_table` meets its contract: the row, put into its line. Assumes nothing.
use native.Mathlib.Omega.{arith}
use Rattle.replies.proofs.Sizes.{row-short}
use Rattle.replies.proofs.answers.put_asked_table.Goals as goal

pub put_table_set-requires : goal.put_table_set-requires
put_table_set-requires c = rw c.row_of-row.ensures (omega (arith, c.requires, row-short c.args.rows.now c.args.t.0))

pub returns : goal.returns
returns c = rw (← c.row_of-row.ensures) (record { next = c.put_table_set.ensures.next; held = c.put_table_set.ensures.held })
