-- The place in a line, from its first stray column and its number: a tens digit needs some number, a unit digit has to make one.
-- Assumes nothing.
use Rattle.std.proofs.Common.{◌≡◌, ℕ, ◌+◌, ◌-◌, ◌*◌, ◌<◌, ◌≤◌, true, List, length, get_or, refl, arith, lt-ltb, le-leb}
use Rattle.post.specs.Columns.{lowest, highest, column_fits, columns_fit, tens_of, number_of, may_follow, pick, next_number, Column, LinePlace, FirstStray}
use Rattle.post.proofs.Lines.{between-low, between-high}

-- a column that fits holds a digit where the number stands
pub tens-fits : (s : List ℕ) → column_fits s 6 ≡ true → (48 ≤ get_or s 6 0) × (get_or s 6 0 ≤ 57)
unfolding column_fits lowest highest
tens-fits s e = (between-low 48 57 (get_or s 6 0) e, between-high 48 57 (get_or s 6 0) e)

pub unit-fits : (s : List ℕ) → column_fits s 7 ≡ true → (48 ≤ get_or s 7 0) × (get_or s 7 0 ≤ 57)
unfolding column_fits lowest highest
unit-fits s e = (between-low 48 57 (get_or s 7 0) e, between-high 48 57 (get_or s 7 0) e)

-- the number of a line whose number may come next
pub found : (tables above n : ℕ) (s : List ℕ) → columns_fit s 36 ≡ true → number_of s ≡ n → above < n → n ≤ tables → n ≡ next_number tables above s
unfolding next_number pick may_follow
found tables above n s e q h k = rw (e, q, lt-ltb above n h, le-leb n tables k)

-- below the last table no line may stand
pub place_none : (tables above : ℕ) (s : List ℕ) → tables ≤ above → LinePlace tables above s 0
place_none tables above s h =
    record { in-text = omega arith; in-line = omega arith; before = λ j k. absurd (omega arith); stops = λ a b c. omega (arith, c.first refl) }

module _ (tables above : ℕ) (s : List ℕ) (stray : ℕ) (f : FirstStray s stray) (room : above < tables) where
  abbrev Tens : Type 0
  Tens = (above < (get_or s 6 0 - 48) * 10 + 9) × ((get_or s 6 0 - 48) * 10 ≤ tables)

  abbrev Unit : Type 0
  Unit = (above < (get_or s 6 0 - 48) * 10 + (get_or s 7 0 - 48)) × ((get_or s 6 0 - 48) * 10 + (get_or s 7 0 - 48) ≤ tables)

  columns : (k : ℕ) → k ≤ stray → (6 < k → Tens) → (7 < k → Unit) → (j : ℕ) → j < k → Column tables above s j
  unfolding tens_of number_of
  columns k h t u j i =
      record { held = f.before j (omega arith); first = λ e. room; tens = λ e. t (omega arith); unit = λ e. u (omega arith) }

  strays : stray < 36 → stray < length s → Column tables above s stray → ⊥
  strays a b c = let z : ◌≡◌ {A = ℕ} 0 1 = cc (f.stops a b, c.held) in omega arith

  -- the column that strays is the place
  pub place-stray : (6 < stray → Tens) → (7 < stray → Unit) → LinePlace tables above s stray
  place-stray t u = record { in-text = f.in-text; in-line = f.in-line; before = columns stray (omega arith) t u; stops = strays }

  -- no number that may come next starts so
  pub place-tens : 6 < stray → (Tens → ⊥) → LinePlace tables above s 6
  unfolding tens_of
  place-tens h n =
      record {
        in-text = omega (arith, f.in-text);
        in-line = omega arith;
        before = columns 6 (omega arith) (λ e. absurd (omega arith)) (λ e. absurd (omega arith));
        stops = λ a b c. n (c.tens refl);
      }

  -- the number may not come next
  pub place-unit : 7 < stray → Tens → (Unit → ⊥) → LinePlace tables above s 7
  unfolding number_of
  place-unit h t n =
      record {
        in-text = omega (arith, f.in-text);
        in-line = omega arith;
        before = columns 7 (omega arith) (λ e. t) (λ e. absurd (omega arith));
        stops = λ a b c. n (c.unit refl);
      }
