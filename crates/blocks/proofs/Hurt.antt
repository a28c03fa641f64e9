-- [2]: the place of a 24 is that of a damaged byte, and all before it are undamaged; any other answer has place 0. Assumes nothing.
use mathlib.Core.Path.{◌≡◌, refl}
use mathlib.Core.Bool.{Bool, true, false}
use mathlib.Core.List.{List}
use Prim.Native.Nat.{ℕ}
use native.Mathlib.Omega.{arith}
use lib.Dec.{ltb}
use lib.ListN.{length}
use Rattle.line.specs.Characters.{undamaged_all}
use Rattle.damage.specs.First.{HurtAt}
use Rattle.damage.proofs.First.{first-hurt}
use Rattle.blocks.specs.Stripping.{stripped_by, stripped_of}

hurt-by : (reply : List ℕ) (short whole : Bool) → undamaged_all reply ≡ whole → (stripped_by reply short whole).number ≡ 24
    → HurtAt reply (stripped_by reply short whole).place
hurt-by reply true whole e h = absurd (omega (arith, h))
hurt-by reply false true e h = absurd (omega (arith, h))
hurt-by reply false false e h = first-hurt reply e

pub strip-hurt : (reply out : List ℕ) → (stripped_of reply out).number ≡ 24 → HurtAt reply (stripped_of reply out).place
unfolding stripped_of
strip-hurt reply out = hurt-by reply (ltb (length out) (length reply)) (undamaged_all reply) refl

unhurt-by : (reply : List ℕ) (short whole : Bool) → ((stripped_by reply short whole).number ≡ 24 → ⊥) → (stripped_by reply short whole).place ≡ 0
unhurt-by reply true whole h = refl
unhurt-by reply false true h = refl
unhurt-by reply false false h = absurd (h refl)

pub strip-unhurt : (reply out : List ℕ) → ((stripped_of reply out).number ≡ 24 → ⊥) → (stripped_of reply out).place ≡ 0
unfolding stripped_of
strip-unhurt reply out = unhurt-by reply (ltb (length out) (length reply)) (undamaged_all reply)
