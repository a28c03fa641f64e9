-- `export::write_frame` meets its contract: what is written so far is the line, changed as far as it was gone through; the BCC
-- is written over the last byte. Assumes nothing.
use mathlib.Core.Path.{◌≡◌}
use Prim.Native.Nat.{◌≤◌}
use lib.ListN.{length, drop}
use Rattle.text.specs.Writing.{stored}
use Rattle.export.specs.Changed.{changed_to}
use Rattle.export.proofs.write_frame.Given as goal

abbrev pub invariant-loop-j : goal.invariant-loop-j
invariant-loop-j l = (l.j ≤ 36) × (length l.out ≡ length l.initial.out) × (l.out ≡ stored l.initial.out l.at (changed_to (drop l.at l.text) l.j))
