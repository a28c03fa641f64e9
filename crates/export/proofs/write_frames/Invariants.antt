-- `export::write_frames` meets its contract: what is written so far is the lines gone through, changed. Assumes nothing.
use mathlib.Core.Path.{◌≡◌}
use Prim.Native.Nat.{◌≤◌}
use lib.ListN.{length}
use Rattle.text.specs.Writing.{stored}
use Rattle.export.specs.Changed.{change, changed_lines}
use Rattle.export.proofs.write_frames.Given as goal

abbrev pub invariant-loop-i : goal.invariant-loop-i
invariant-loop-i l = (l.changes ≡ change) × (l.i ≤ l.lines) × (length l.out ≡ length l.initial.out) × (l.out ≡ stored l.initial.out 0 (changed_lines l.text l.i))
