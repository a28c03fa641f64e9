-- A counter's number from the pairs of its first and of its last eight characters. Assumes nothing.
use mathlib.Core.Path.{◌≡◌, refl, sym, ap, ◌∙◌}
use mathlib.Core.Bool.{Bool, true, false, cond, ◌&&◌, ◌||◌}
use mathlib.Core.List.{List, [], ◌∷◌, map}
use Prim.Native.Nat.{ℕ, zero, suc, ◌+◌, ◌-◌, ◌*◌, ◌/◌, ◌%◌, ◌^◌, ◌≤◌, ◌<◌}
use native.Mathlib.Nat.{div-one}
use native.Mathlib.Omega.{arith}
use borrow.Author.Tests.{eqb-true}
use lib.Dec.{eqb}
use lib.ListN.{length, get_or, take, drop, length-drop}
use lib.Seq.{get_or-take, get_or-drop, length-take-le}
use Rattle.line.specs.Quoted.{chars}
use Rattle.line.specs.Runs.{every}
use Rattle.line.proofs.Runs.{and_left, and_right}
use Rattle.text.specs.Classes.{matching}
use Rattle.text.specs.Decimal.{value_from, value_of, number_at}
use Rattle.text.specs.Layout.{pattern, agrees, fits}
use Rattle.eights.specs.Lanes.{lanes, least, paired, is_byte}
use Rattle.eights.proofs.Neighbours.{above}
use Rattle.eights.proofs.Windows.{window, window-pair, spelled, take-spelled}
use Rattle.values.specs.Family.{counter_digits, counter_decimals}
use Rattle.values.specs.Numbers.{Above}
use Rattle.values.specs.Counters.{form_of, counter_pattern, first_form, last_form, keeps_form, upper_of, counter_of}
use Rattle.values.specs.Reading.{counter_in}
use Rattle.values.specs.Texts.{counter_form}
use Rattle.values.proofs.Families.{shown, pattern-long}
use Rattle.values.proofs.Eights.{low_bytes, kept-both, front_fits, end_fits, is-above}

-- each character of a text agrees with its pattern's
matched-at : (k : ℕ) (p s : List ℕ) → matching agrees p s ≡ true → k < length p → agrees (get_or p k 0) (get_or s k 0) ≡ true
unfolding matching
matched-at k [] s h i = absurd (omega arith)
matched-at k (c ∷ p) [] h i = absurd (let z : ◌≡◌ {A = ℕ} 0 1 = cc in omega arith)
matched-at zero (c ∷ p) (x ∷ s) h i = and_left (agrees c x) (matching agrees p s) h
matched-at (suc k) (c ∷ p) (x ∷ s) h i = matched-at k p s (and_right (agrees c x) (matching agrees p s) h) (omega arith)

-- so the point is where the pattern has it
point_at : (k : ℕ) (p s : List ℕ) → fits p s ≡ true → k < length p → get_or p k 0 ≡ 46 → get_or s k 0 ≡ 46
unfolding fits agrees
point_at k p s h i e = sym (eqb-true 46 (get_or s k 0) (rw e at (matched-at k p s h i)))

-- digits from a place on, one by one
digits-at : (s : List ℕ) (at w : ℕ) → at + w ≤ length s → number_at s at w ≡ value_of (spelled w 0 at s)
unfolding number_at
digits-at s at w r =
    let z : at ≡ at + 0 = omega arith in
    ap (λ (k : ℕ). value_of (take w (drop k s))) z ∙ ap value_of (take-spelled w 0 at s (omega arith))

-- what two neighbours of a text say, above the least of its pattern
abbrev neighbours : List ℕ → List ℕ → ℕ → ℕ
neighbours p s k = above (get_or p k 0) (get_or s k 0) * 10 + above (get_or p (suc k) 0) (get_or s (suc k) 0)

-- the pairs of the first eight and of the last that say a counter's number
record Pairs (p s : List ℕ) (at x y : ℕ) : Type 0 where
  a : x % 0x100 ≡ neighbours p s 0
  b : x / 0x10000 % 0x100 ≡ neighbours p s 2
  c : x / 0x100000000 % 0x100 ≡ neighbours p s 4
  d : y % 0x100 ≡ neighbours p s (at + 0)
  e : y / 0x10000 % 0x100 ≡ neighbours p s (at + 2)

module _ (p s : List ℕ) (at w v : ℕ) (short : at ≤ 8) (n : length p ≡ at + 8) (m : length s ≡ at + 8) (e : w ≡ lanes (window 0 s)) (f : v ≡ lanes (window at s)) (h : fits p s ≡ true) where
  front-pair : (k : ℕ) → suc k < 8 → paired (w - lanes (map least (take 8 p))) / 256 ^ k % 256 ≡ neighbours p s k
  front-pair k i =
      let a : 0 + k ≡ k = omega arith in
      let b : 0 + suc k ≡ suc k = omega arith in
      rw (get_or-take 8 p k 0 (omega arith), get_or-take 8 p (suc k) 0 i, a, b)
      at (window-pair (take 8 p) s 0 w (length-take-le 8 p (omega arith)) (omega arith) e (front_fits p s at w v short n m e f h) k i)

  end-pair : (k : ℕ) → suc k < 8 → paired (v - lanes (map least (drop at p))) / 256 ^ k % 256 ≡ neighbours p s (at + k)
  end-pair k i =
      let z : suc (at + k) ≡ at + suc k = omega arith in
      rw (z, ← get_or-drop at p k 0, ← get_or-drop at p (suc k) 0)
      (window-pair (drop at p) s at v (omega (arith, length-drop at p)) (omega arith) f (end_fits p s at w v short n m e f h) k i)

  all-pairs : Pairs p s at (paired (w - lanes (map least (take 8 p)))) (paired (v - lanes (map least (drop at p))))
  all-pairs =
      let x = paired (w - lanes (map least (take 8 p))) in
      let y = paired (v - lanes (map least (drop at p))) in
      record {
        a = ap (λ (i : ℕ). i % 256) (sym (div-one x)) ∙ front-pair 0 (omega arith);
        b = front-pair 2 (omega arith);
        c = front-pair 4 (omega arith);
        d = ap (λ (i : ℕ). i % 256) (sym (div-one y)) ∙ end-pair 0 (omega arith);
        e = end-pair 2 (omega arith);
      }

-- ---- as a family shows it: of document 01's, of two decimals, of three, or of four

abbrev pattern_by : Bool → Bool → Bool → List ℕ
pattern_by b c d = pattern (counter_form (cond b 9 8) (cond b 3 (cond c 2 (cond d 3 4))))

abbrev upper_by : Bool → Bool → Bool → ℕ → ℕ → ℕ → ℕ
upper_by b c d front third first =
    cond b ((front * 100 + third) * 10 + first) (cond c (front * 100 + third) (cond d (front * 100 + third + first) (front * 100 + first)))

-- its first eight characters, and its last
first_by : (b c d : Bool) → cond (b || c) (chars "######.#") (cond d (chars "#####.##") (chars "####.###")) ≡ take 8 (pattern_by b c d)
unfolding pattern
first_by true c d = refl
first_by false true d = refl
first_by false false true = refl
first_by false false false = refl

last-by : (b c d : Bool) → (c ≡ true → d ≡ true → ⊥) → cond (b || d) (chars ".###*kWh") (cond c (chars "#.##*kWh") (chars "####*kWh")) ≡ drop (cond b 9 8 - 3) (pattern_by b c d)
unfolding pattern
last-by true c d apart = refl
last-by false true true apart = absurd (apart refl refl)
last-by false true false apart = refl
last-by false false true apart = refl
last-by false false false apart = refl

two-or-three : (family : ℕ) → eqb family 2 ≡ true → eqb family 3 ≡ true → ⊥
two-or-three family a b = omega (arith, eqb-true family 2 a, eqb-true family 3 b)

pub first-is : (family : ℕ) → form_of (cond (eqb family 0 || eqb family 2) (chars "######.#") (cond (eqb family 3) (chars "#####.##") (chars "####.###"))) ≡ first_form family
unfolding first_form counter_digits counter_decimals
first-is family = ap form_of (first_by (eqb family 0) (eqb family 2) (eqb family 3))

pub last-is : (family : ℕ) → form_of (cond (eqb family 0 || eqb family 3) (chars ".###*kWh") (cond (eqb family 2) (chars "#.##*kWh") (chars "####*kWh"))) ≡ last_form family
unfolding last_form counter_digits counter_decimals
last-is family = ap form_of (last-by (eqb family 0) (eqb family 2) (eqb family 3) (two-or-three family))

low_by : (b c d : Bool) → low_bytes (pattern_by b c d) ≡ true
unfolding pattern least every
low_by true c d = refl
low_by false true d = refl
low_by false false true = refl
low_by false false false = refl

-- and its number, digit by digit
said-by : (b c d : Bool) (s : List ℕ) (x y : ℕ) → Pairs (pattern_by b c d) s (cond b 9 8 - 3) x y → fits (pattern_by b c d) s ≡ true → length s ≡ cond b 9 8 - 3 + 8
    → upper_by b c d (x % 0x100 * 100 + x / 0x10000 % 0x100) (x / 0x100000000 % 0x100) (y % 0x100) * 100 + y / 0x10000 % 0x100
    ≡ counter_in (cond b 9 8) (cond b 3 (cond c 2 (cond d 3 4))) s
unfolding pattern least spelled value_of value_from
said-by true c d s x y t h m =
    let z : get_or s 6 0 ≡ 46 = point_at 6 (pattern_by true c d) s h (omega arith) refl in
    rw (t.a, t.b, t.c, t.d, t.e, z, digits-at s 0 6 (omega arith), digits-at s 7 3 (omega arith)) (omega arith)
said-by false true d s x y t h m = rw (t.a, t.b, t.c, t.e, digits-at s 0 6 (omega arith), digits-at s 7 2 (omega arith)) (omega arith)
said-by false false true s x y t h m =
    let z : get_or s 5 0 ≡ 46 = point_at 5 (pattern_by false false true) s h (omega arith) refl in
    rw (t.a, t.b, t.c, t.d, t.e, z, digits-at s 0 5 (omega arith), digits-at s 6 3 (omega arith)) (omega arith)
said-by false false false s x y t h m = rw (t.a, t.b, t.d, t.e, digits-at s 0 4 (omega arith), digits-at s 5 4 (omega arith)) (omega arith)

at_most : (family : ℕ) → counter_digits family - 3 ≤ 8
at_most family = omega (arith, shown family)

pub counter-pattern-long : (family : ℕ) → length (counter_pattern family) ≡ counter_digits family - 3 + 8
counter-pattern-long family =
    let k = shown family in
    pattern-long (counter_digits family) (counter_decimals family) (omega arith) ∙ omega arith

-- a text as long as a family's counters, and the two halves that were read of it
module _ (family digits : ℕ) (s : List ℕ) (w v : ℕ) (z : digits ≡ counter_digits family) (long : length s ≡ digits - 3 + 8) (e : w ≡ lanes (window 0 s)) (last : v ≡ lanes (window (digits - 3) s)) where
  m : length s ≡ counter_digits family - 3 + 8
  m = rw z at long

  f : v ≡ lanes (window (counter_digits family - 3) s)
  f = rw z at last

  pub counter-kept : every is_byte s ≡ true → (keeps_form (first_form family) w && keeps_form (last_form family) v) ≡ fits (counter_pattern family) s
  unfolding first_form last_form counter_digits counter_decimals
  counter-kept bytes =
      kept-both (counter_pattern family) s (counter_digits family - 3) w v (at_most family) (counter-pattern-long family) m e f (low_by (eqb family 0) (eqb family 2) (eqb family 3)) bytes

  module _ (h : fits (counter_pattern family) s ≡ true) where
    pub counter-above : Above w (first_form family).low × Above v (last_form family).low
    unfolding first_form last_form
    counter-above =
        let p = counter_pattern family in
        let at = counter_digits family - 3 in
        let n = counter-pattern-long family in (
          is-above (take 8 p) s 0 w (length-take-le 8 p (omega arith)) (omega arith) e (front_fits p s at w v (at_most family) n m e f h),
          is-above (drop at p) s at v (omega (arith, length-drop at p)) (omega arith) f (end_fits p s at w v (at_most family) n m e f h),
        )

    pub counter-said : counter_of family (paired (w - (first_form family).low)) (paired (v - (last_form family).low)) ≡ counter_in (counter_digits family) (counter_decimals family) s
    unfolding first_form last_form upper_of counter_digits counter_decimals
    counter-said =
        said-by (eqb family 0) (eqb family 2) (eqb family 3) s _ _
        (all-pairs (counter_pattern family) s (counter_digits family - 3) w v (at_most family) (counter-pattern-long family) m e f h) h m
