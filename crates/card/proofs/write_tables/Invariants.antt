-- `card::write_tables` meets its contract: what is written so far is the frames of the tables gone through. Assumes nothing.
use mathlib.Core.Path.{◌≡◌}
use Prim.Native.Nat.{◌≤◌}
use lib.ListN.{length, drop}
use Rattle.text.specs.Writing.{stored}
use Rattle.card.specs.Frames.{field_frames}
use Rattle.card.proofs.write_tables.Given as goal

abbrev pub invariant-loop-i : goal.invariant-loop-i
invariant-loop-i l = (l.i ≤ l.tables) × (length l.out ≡ length l.initial.out) × (l.out ≡ stored l.initial.out 19 (field_frames (drop 13 l.text) l.i))
