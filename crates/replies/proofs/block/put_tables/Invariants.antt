-- `replies::block::put_tables` meets its contract: so far the lines of tables 01 to i are put in. Assumes nothing.
use mathlib.Core.Path.{◌≡◌}
use Prim.Native.Nat.{◌+◌, ◌*◌}
use lib.ListN.{length}
use Rattle.datasets.proofs.Joined.{Lines}
use Rattle.replies.specs.Block.{table_sets}
use Rattle.replies.proofs.block.put_tables.Given as goal

abbrev pub invariant-loop-i : goal.invariant-loop-i
invariant-loop-i l =
    (l.place ≡ l.at + l.i * 36) × (length l.buf ≡ length l.initial.buf) × Lines l.initial.buf l.at (table_sets l.rows l.i) l.place l.buf
