-- Fields within their ranges are of four bits each. Assumes nothing.
use mathlib.Core.Path.{◌≡◌, refl}
use mathlib.Core.Bool.{Bool, true, false, not, ◌&&◌}
use Prim.Native.Nat.{ℕ, ◌≤◌}
use native.Mathlib.Omega.{arith}
use lib.Dec.{eqb, leb}
use borrow.Author.Tests.{eqb-true, leb-true}
use Rattle.line.proofs.Runs.{and_left, and_right}
use Rattle.mercury.specs.Asking.{good_array, monthly, good_month, good_fields}
use Rattle.mercury.proofs.Lengths.{or_else}

array-le : (a : ℕ) → good_array a ≡ true → a ≤ 15
unfolding good_array
array-le a e = by (leb 9 a && leb a 13) refl
  where
    by : (t : Bool) → (leb 9 a && leb a 13) ≡ t → a ≤ 15
    by true f = let k : a ≤ 13 = leb-true a 13 (and_right (leb 9 a) (leb a 13) f) in omega arith
    by false f = let k : a ≤ 5 = leb-true a 5 (or_else (leb a 5) (leb 9 a && leb a 13) e f) in omega arith

month-le : (a m : ℕ) → good_month a m ≡ true → m ≤ 15
unfolding good_month
month-le a m e = by (not (monthly a) && eqb m 0) refl
  where
    by : (t : Bool) → (not (monthly a) && eqb m 0) ≡ t → m ≤ 15
    by true f = let k : m ≡ 0 = eqb-true m 0 (and_right (not (monthly a)) (eqb m 0) f) in omega arith
    by false f =
        let d : (monthly a && (leb 1 m && leb m 12)) ≡ true = or_else (monthly a && (leb 1 m && leb m 12)) (not (monthly a) && eqb m 0) e f in
        let k : m ≤ 12 = leb-true m 12 (and_right (leb 1 m) (leb m 12) (and_right (monthly a) (leb 1 m && leb m 12) d)) in omega arith

pub fields_le : (a m t : ℕ) → good_fields a m t ≡ true → (a ≤ 15) × (m ≤ 15)
unfolding good_fields
fields_le a m t e = (
  array-le a (and_left (good_array a) (good_month a m && leb t 4) e),
  month-le a m (and_left (good_month a m) (leb t 4) (and_right (good_array a) (good_month a m && leb t 4) e)),
)
