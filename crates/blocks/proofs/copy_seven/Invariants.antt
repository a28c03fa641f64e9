-- `blocks::copy_seven` meets its contract. The invariant: the seven bits of the bytes passed are stored from the front on. Assumes nothing.
use mathlib.Core.Path.{◌≡◌}
use mathlib.Core.List.{map}
use Prim.Native.Nat.{◌≤◌}
use lib.ListN.{length, take}
use Rattle.line.specs.Characters.{seven}
use Rattle.text.specs.Writing.{stored}
use Rattle.blocks.proofs.copy_seven.Given as goal

abbrev pub invariant-loop-i : goal.invariant-loop-i
invariant-loop-i l = (l.i ≤ length l.s) × (length l.out ≡ length l.initial.out) × (l.out ≡ stored l.initial.out 0 (take l.i (map seven l.s)))
