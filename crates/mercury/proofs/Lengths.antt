-- What the length of an answer that is taken leaves for its bytes: 19 or 4. Assumes nothing.
use mathlib.Core.Path.{◌≡◌, refl, sym, ◌∙◌}
use mathlib.Core.Bool.{Bool, true, false, ◌||◌}
use Prim.Native.Nat.{ℕ, ◌≤◌}
use native.Mathlib.Omega.{arith}
use lib.Dec.{eqb}
use borrow.Author.Tests.{eqb-true}
use Rattle.mercury.specs.Answering.{good_length}

pub or_else : (a b : Bool) → (a || b) ≡ true → b ≡ false → a ≡ true
or_else true b e f = refl
or_else false b e f = sym (sym e ∙ f)

pub at-least-four : (n : ℕ) → good_length n ≡ true → 4 ≤ n
unfolding good_length
at-least-four n e = by (eqb n 4) refl
  where
    by : (t : Bool) → eqb n 4 ≡ t → 4 ≤ n
    by true f = let k : n ≡ 4 = eqb-true n 4 f in omega arith
    by false f = let k : n ≡ 19 = eqb-true n 19 (or_else (eqb n 19) (eqb n 4) e f) in omega arith

pub just-nineteen : (n : ℕ) → good_length n ≡ true → eqb n 4 ≡ false → n ≡ 19
unfolding good_length
just-nineteen n e f = eqb-true n 19 (or_else (eqb n 19) (eqb n 4) e f)
