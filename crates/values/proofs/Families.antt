-- What a family fixes of its counters: their digits and decimals, where they end, and their text's length and round trip.
-- The law of digits and decimals (`counter-reads-back`, `counter-read-is-text`) read at a family's. Assumes nothing.
use mathlib.Core.Path.{◌≡◌, refl, sym, ap, ◌∙◌}
use mathlib.Core.Bool.{Bool, true, false, cond}
use mathlib.Core.List.{List, [], ◌∷◌, ◌++◌, append_assoc}
use Prim.Native.Nat.{ℕ, ◌+◌, ◌-◌, ◌/◌, ◌%◌, ◌^◌, ◌≤◌, ◌<◌}
use native.Mathlib.Omega.{arith}
use borrow.Author.Tests.{not-true, leb-true, eqb-true, eqb-false}
use lib.Dec.{eqb, leb}
use lib.Seq.{take_at, drop_at, take_all}
use lib.ListN.{length, take, drop, length-append, length-replicate, replicate}
use Rattle.line.proofs.Runs.{and_left, and_right}
use Rattle.text.specs.Classes.{between}
use Rattle.text.specs.Decimal.{decimal}
use Rattle.text.specs.Layout.{pattern, layout_text}
use Rattle.text.proofs.Decimal.{length-decimal, decimal-split, decimal-mod}
use Rattle.values.specs.Family.{is_family, is_eqm, counter_digits, counter_decimals, counter_end}
use Rattle.values.specs.Texts.{counter_form, counter_text, energy_text}
use Rattle.values.specs.Reading.{energy_read}
use Rattle.values.proofs.RoundTrip.{counter-reads-back, counter-read-is-text}

-- eight digits or nine, two to four of them decimals
pub record Shown (digits decimals : ℕ) : Type 0 where
  pub digits-least : 8 ≤ digits
  pub digits-most : digits ≤ 9
  pub decimals-least : 2 ≤ decimals
  pub decimals-most : decimals ≤ 4

pub shown : (family : ℕ) → Shown (counter_digits family) (counter_decimals family)
unfolding counter_digits counter_decimals
shown family = by (eqb family 0) (eqb family 2) (eqb family 3)
  where
    by : (b c d : Bool) → Shown (cond b 9 8) (cond b 3 (cond c 2 (cond d 3 4)))
    by true c d = record { digits-least = omega arith; digits-most = omega arith; decimals-least = omega arith; decimals-most = omega arith }
    by false true d = record { digits-least = omega arith; digits-most = omega arith; decimals-least = omega arith; decimals-most = omega arith }
    by false false true = record { digits-least = omega arith; digits-most = omega arith; decimals-least = omega arith; decimals-most = omega arith }
    by false false false = record { digits-least = omega arith; digits-most = omega arith; decimals-least = omega arith; decimals-most = omega arith }

-- an EQM meter has as many decimals as its family's number says
chosen_by : (family : ℕ) (two three : Bool) → eqb family 2 ≡ two → eqb family 3 ≡ three → 2 ≤ family → family ≤ 4 → cond two 2 (cond three 3 4) ≡ family
chosen_by family true three e f low high = sym (eqb-true family 2 e)
chosen_by family false true e f low high = sym (eqb-true family 3 f)
chosen_by family false false e f low high =
    let other : family ≡ 2 → ⊥ = eqb-false family 2 e in
    let another : family ≡ 3 → ⊥ = eqb-false family 3 f in
    omega (arith, other, another)

pub decimals-are : (family : ℕ) → is_family family ≡ true → is_eqm family ≡ true → counter_decimals family ≡ family
unfolding is_family is_eqm counter_decimals between
decimals-are family is eqm =
    let old : eqb family 0 ≡ false = not-true (eqb family 0) eqm in
    let within = rw old at is in
    rw old
    (chosen_by family (eqb family 2) (eqb family 3) refl refl
    (leb-true 2 family (and_left (leb 2 family) (leb family 4) within)) (leb-true family 4 (and_right (leb 2 family) (leb family 4) within)))

-- a counter rolls over where its digits end
pub end_is : (family : ℕ) → 10 ^ counter_digits family ≡ counter_end family
unfolding counter_digits counter_end
end_is family = by (eqb family 0)
  where
    by : (b : Bool) → 10 ^ cond b 9 8 ≡ cond b 1000000000 100000000
    by true = refl
    by false = refl

-- a counter's text, over its digits and decimals
pub counter-long : (all decimals n : ℕ) → decimals ≤ all → length (counter_text all decimals n) ≡ all + 5
unfolding counter_text layout_text
counter-long all decimals n low =
    let whole = decimal (all - decimals) (n / 10 ^ decimals) in
    let rest = decimal decimals (n % 10 ^ decimals) in
    length-append whole (46 ∷ (rest ++ (42 ∷ 107 ∷ 87 ∷ 104 ∷ [])))
    ∙ omega (arith, length-append rest (42 ∷ 107 ∷ 87 ∷ 104 ∷ []), length-decimal (all - decimals) (n / 10 ^ decimals), length-decimal decimals (n % 10 ^ decimals))

-- of a number's w last digits, those before the point and those after it
pub before-point : (w all decimals n : ℕ) → decimals ≤ all → all ≤ w
    → take (w - decimals - (w - all)) (drop (w - all) (decimal w n)) ≡ decimal (all - decimals) (n / 10 ^ decimals)
before-point w all decimals n low high =
    let m = n / 10 ^ decimals in
    let skipped = decimal (w - all) (m / 10 ^ (all - decimals)) in
    let whole = decimal (all - decimals) m in
    let upper : decimal (w - decimals) m ≡ skipped ++ whole = ap (λ (k : ℕ). decimal k m) {y = w - all + (all - decimals)} (omega arith) ∙ decimal-split (w - all) (all - decimals) m in
    let cut : decimal w n ≡ decimal (w - decimals) m ++ decimal decimals n = ap (λ (k : ℕ). decimal k n) {y = w - decimals + decimals} (omega arith) ∙ decimal-split (w - decimals) decimals n in
    let z : w - decimals - (w - all) ≡ all - decimals = omega arith in
    rw (cut, upper, append_assoc skipped whole (decimal decimals n), drop_at skipped (whole ++ decimal decimals n) (w - all) (length-decimal (w - all) _), z)
    (take_at whole (decimal decimals n) (all - decimals) (length-decimal (all - decimals) m))

pub after-point : (w decimals n : ℕ) → decimals ≤ w → take (w - (w - decimals)) (drop (w - decimals) (decimal w n)) ≡ decimal decimals (n % 10 ^ decimals)
after-point w decimals n low =
    let before = decimal (w - decimals) (n / 10 ^ decimals) in
    let cut : decimal w n ≡ before ++ decimal decimals n = ap (λ (k : ℕ). decimal k n) {y = w - decimals + decimals} (omega arith) ∙ decimal-split (w - decimals) decimals n in
    rw (cut, drop_at before (decimal decimals n) (w - decimals) (length-decimal (w - decimals) _), take_all (w - (w - decimals)) (decimal decimals n) (omega (arith, length-decimal decimals n)))
    (sym (decimal-mod decimals n))

pub energy-long : (family n : ℕ) → length (energy_text family n) ≡ counter_digits family + 5
unfolding energy_text
energy-long family n = counter-long (counter_digits family) (counter_decimals family) n (omega (arith, shown family))

pub energy-reads-back : (family n : ℕ) → n < counter_end family → energy_read family (energy_text family n) ≡ record { ok = true; number = n }
unfolding energy_read energy_text
energy-reads-back family n h =
    counter-reads-back (counter_digits family) (counter_decimals family) n (rw (end_is family) h) (omega (arith, shown family))

pub energy-read-is-text : (family : ℕ) (s : List ℕ) → (energy_read family s).ok ≡ true → energy_text family (energy_read family s).number ≡ s
unfolding energy_read energy_text
energy-read-is-text family s h = counter-read-is-text (counter_digits family) (counter_decimals family) s h

-- a pattern of a counter, over its digits and decimals, is as long as its text
pub pattern-long : (all decimals : ℕ) → decimals ≤ all → length (pattern (counter_form all decimals)) ≡ all + 5
unfolding pattern
pattern-long all decimals low =
    let mark : ℕ = 35 in
    let rest = replicate decimals mark in
    length-append (replicate (all - decimals) mark) (46 ∷ (rest ++ (42 ∷ 107 ∷ 87 ∷ 104 ∷ [])))
    ∙ omega (arith, length-append rest (42 ∷ 107 ∷ 87 ∷ 104 ∷ []), length-replicate (all - decimals) mark, length-replicate decimals mark)
