-- `reporting::put_rows` meets its contract: what is put in so far is the rows gone through. Assumes nothing.
use mathlib.Core.Path.{◌≡◌}
use Prim.Native.Nat.{◌+◌, ◌*◌, ◌≤◌}
use lib.ListN.{length}
use Rattle.text.specs.Writing.{stored}
use Rattle.reporting.specs.Report.{row_lines}
use Rattle.reporting.proofs.put_rows.Given as goal

abbrev pub invariant-loop-i : goal.invariant-loop-i
invariant-loop-i l = (l.i ≤ l.tables) × (l.to ≡ l.at + l.i * 25) × (length l.out ≡ length l.initial.out) × (l.out ≡ stored l.initial.out l.at (row_lines l.i l.rows))
