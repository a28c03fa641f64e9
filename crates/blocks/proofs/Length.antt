-- What was stripped fits the buffer that it was stripped into. Assumes nothing.
use mathlib.Core.Path.{◌≡◌, refl}
use mathlib.Core.Bool.{Bool, true, false}
use mathlib.Core.List.{List}
use Prim.Native.Nat.{ℕ, ◌≤◌}
use native.Mathlib.Omega.{arith}
use borrow.Author.Tests.{ltb-false}
use lib.Dec.{ltb}
use lib.ListN.{length}
use Rattle.line.specs.Characters.{undamaged_all}
use Rattle.blocks.specs.Stripping.{stripped_by, stripped_of}

answered-fits : (reply : List ℕ) (short whole : Bool) (m : ℕ) → (short ≡ false → length reply ≤ m) → (stripped_by reply short whole).length ≤ m
answered-fits reply true whole m h = omega arith
answered-fits reply false true m h = h refl
answered-fits reply false false m h = omega arith

pub stripped-fits : (reply out : List ℕ) → (stripped_of reply out).length ≤ length out
unfolding stripped_of
stripped-fits reply out = answered-fits reply (ltb (length out) (length reply)) (undamaged_all reply) (length out) (ltb-false (length out) (length reply))
