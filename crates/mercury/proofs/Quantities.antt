-- A quantity's bytes read back to it, and what is read of four bytes makes the same four. Assumes nothing.
use mathlib.Core.Path.{◌≡◌, refl, sym, ap, ap₂, ◌∙◌}
use mathlib.Core.Bool.{Bool, true, false, cond}
use mathlib.Core.List.{List, [], ◌∷◌}
use Prim.Native.Nat.{ℕ, ◌+◌, ◌*◌, ◌/◌, ◌%◌, ◌<◌, ◌≤◌}
use native.Mathlib.Omega.{arith}
use lib.Dec.{eqb}
use lib.Arith.{digits_div, digits_mod}
use borrow.Author.Tests.{eqb-true, ltb-true, ne_eqb}
use Rattle.std.specs.Prelude.{Some, None}
use Rattle.mercury.specs.Answering.{Quantity, number_from, quantity_of, number_of, quantity_bytes, good_quantity}

number_lt : (q : Quantity) → good_quantity q ≡ true → number_of q ≤ 0xFFFFFFFF
unfolding good_quantity number_of
number_lt None g = omega arith
number_lt (Some n) g = let h : n < 0xFFFFFFFF = ltb-true n 0xFFFFFFFF g in omega arith

-- the number that stands for a quantity says which it is
named : (q : Quantity) → good_quantity q ≡ true → quantity_of (number_of q) ≡ q
unfolding quantity_of number_of good_quantity
named None g = refl
named (Some n) g =
    let h : n < 0xFFFFFFFF = ltb-true n 0xFFFFFFFF g in
    rw (ne_eqb n 0xFFFFFFFF (λ e. omega arith))

-- four bytes and their number
digits : (n : ℕ) → n ≤ 0xFFFFFFFF → number_from (n / 65536 % 256) (n / 16777216) (n % 256) (n / 256 % 256) ≡ n
unfolding number_from
digits n h = omega arith

pub quantity-reads-back : (q : Quantity) → good_quantity q ≡ true
    → quantity_of (number_from (number_of q / 65536 % 256) (number_of q / 16777216) (number_of q % 256) (number_of q / 256 % 256)) ≡ q
quantity-reads-back q g = ap quantity_of (digits (number_of q) (number_lt q g)) ∙ named q g

numbered : (n : ℕ) → number_of (quantity_of n) ≡ n
unfolding quantity_of number_of
numbered n = by (eqb n 0xFFFFFFFF) refl
  where
    by : (t : Bool) → eqb n 0xFFFFFFFF ≡ t → number_of (cond t None (Some n)) ≡ n
    by true e = sym (eqb-true n 0xFFFFFFFF e)
    by false e = refl

-- the bytes of a number, in the order of an answer
abbrev bytes_of : ℕ → List ℕ
bytes_of n = n / 65536 % 256 ∷ n / 16777216 ∷ n % 256 ∷ n / 256 % 256 ∷ []

apart : (second first fourth third : ℕ) → second < 256 → first < 256 → fourth < 256 → third < 256
    → bytes_of (first * 16777216 + second * 65536 + third * 256 + fourth) ≡ second ∷ first ∷ fourth ∷ third ∷ []
apart second first fourth third h2 h1 h4 h3 =
    let n = first * 16777216 + second * 65536 + third * 256 + fourth in
    let by16 : n ≡ (first * 256 + second) * 65536 + (third * 256 + fourth) = omega arith in
    let by24 : n ≡ first * 16777216 + (second * 65536 + third * 256 + fourth) = omega arith in
    let by8 : n ≡ (first * 65536 + second * 256 + third) * 256 + fourth = omega arith in
    let r16 : third * 256 + fourth < 65536 = omega arith in
    let r24 : second * 65536 + third * 256 + fourth < 16777216 = omega arith in
    let e2 : n / 65536 % 256 ≡ second =
    ap (λ (k : ℕ). k / 65536 % 256) by16 ∙ ap (λ (k : ℕ). k % 256) (digits_div (first * 256 + second) r16) ∙ digits_mod first h2 in
    let e1 : n / 16777216 ≡ first = ap (λ (k : ℕ). k / 16777216) by24 ∙ digits_div first r24 in
    let e4 : n % 256 ≡ fourth = ap (λ (k : ℕ). k % 256) by8 ∙ digits_mod (first * 65536 + second * 256 + third) h4 in
    let by3 : first * 65536 + second * 256 + third ≡ (first * 256 + second) * 256 + third = omega arith in
    let e3 : n / 256 % 256 ≡ third =
    ap (λ (k : ℕ). k / 256 % 256) by8 ∙ ap (λ (k : ℕ). k % 256) (digits_div (first * 65536 + second * 256 + third) h4 ∙ by3) ∙ digits_mod (first * 256 + second) h3 in
    ap₂ (λ (x : ℕ) (t : List ℕ). x ∷ t) e2 (ap₂ (λ (x : ℕ) (t : List ℕ). x ∷ t) e1 (ap₂ (λ (x y : ℕ). x ∷ y ∷ []) e4 e3))

pub quantity-determines : (second first fourth third : ℕ) → second < 256 → first < 256 → fourth < 256 → third < 256
    → quantity_bytes (quantity_of (number_from second first fourth third)) ≡ second ∷ first ∷ fourth ∷ third ∷ []
unfolding quantity_bytes number_from
quantity-determines second first fourth third h2 h1 h4 h3 =
    ap bytes_of (numbered (number_from second first fourth third)) ∙ apart second first fourth third h2 h1 h4 h3
