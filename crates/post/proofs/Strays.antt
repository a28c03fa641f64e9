-- Where the 36 columns of a line stray: the smallest of those that do, seen in three windows. Assumes nothing.
use Rattle.std.proofs.Common.{◌≡◌, ℕ, ◌+◌, ◌-◌, ◌<◌, ◌≤◌, min, Bool, true, false, List, length, sym, refl, ap, ◌∙◌, ⊎_elim, arith, below_more}
use Rattle.std.proofs.Math.Nat.{min-le_left, min-le_right, min-eq_left, min-eq_right}
use Rattle.post.specs.Columns.{column_fits, columns_fit, straying, StraysFirst, FirstStray}
use Rattle.text.proofs.Beginnings.{le-or-lt}
use Rattle.post.proofs.Places.{columns-each, columns-all}

never : (b : Bool) → (b ≡ true → ⊥) → b ≡ false
never true h = absurd (h refl)
never false h = refl

-- a column that is past its number fits
below-fits : (fits : Bool) (k end column : ℕ) → column ≤ straying fits k end → k < column → fits ≡ true
unfolding straying
below-fits true k end column h i = refl
below-fits false k end column h i = absurd (omega arith)

module _ (s : List ℕ) (end : ℕ) where
  -- a column before the end that strays, or none before it
  unfoldable Stray : ℕ → Type 0
  Stray x = x < end → column_fits s x ≡ false

  stray-min : (a b : ℕ) → Stray a → Stray b → Stray (min a b)
  unfolding Stray
  stray-min a b p q = ⊎_elim (λ h. let e : min a b ≡ a = min-eq_left h in rw e p) (λ h. let e : min a b ≡ b = min-eq_right (omega arith) in rw e q) (le-or-lt a b)

  stray-if : (fits : Bool) (k : ℕ) → fits ≡ column_fits s k → Stray (straying fits k end)
  unfolding Stray straying
  stray-if true k e = λ h. absurd (omega arith)
  stray-if false k e = λ h. sym e

-- windows of 16 columns from 0, b and d on
module _ (s : List ℕ) (b d : ℕ) where
  -- no column before this one strays in the first n of each window, and this one does
  pub record Least (n column : ℕ) : Type 0 where
    pub in-line : column ≤ d + 16
    pub one : column < d + 16 → column_fits s column ≡ false
    pub first : (i : ℕ) → i < n → column ≤ straying (column_fits s i) i (d + 16)
    pub second : (i : ℕ) → i < n → column ≤ straying (column_fits s (b + i)) (b + i) (d + 16)
    pub third : (i : ℕ) → i < n → column ≤ straying (column_fits s (d + i)) (d + i) (d + 16)

  pub least-none : Least 0 (d + 16)
  least-none =
      record { in-line = omega arith; one = λ h. absurd (omega arith); first = λ i h. absurd (omega arith); second = λ i h. absurd (omega arith); third = λ i h. absurd (omega arith) }

  -- the next column of each window
  module _ (n column : ℕ) (f g h : Bool) (p : f ≡ column_fits s n) (q : g ≡ column_fits s (b + n)) (r : h ≡ column_fits s (d + n)) (l : Least n column) where
    abbrev now-least : ℕ
    now-least = min (min column (straying f n (d + 16))) (min (straying g (b + n) (d + 16)) (straying h (d + n) (d + 16)))

    to-left : now-least ≤ min column (straying f n (d + 16))
    to-left = min-le_left (min column (straying f n (d + 16))) (min (straying g (b + n) (d + 16)) (straying h (d + n) (d + 16)))

    to-right : now-least ≤ min (straying g (b + n) (d + 16)) (straying h (d + n) (d + 16))
    to-right = min-le_right (min column (straying f n (d + 16))) (min (straying g (b + n) (d + 16)) (straying h (d + n) (d + 16)))

    no_more : now-least ≤ column
    no_more = omega (arith, to-left, min-le_left column (straying f n (d + 16)))

    pub least_more : Least (n + 1) now-least
    least_more =
        record {
          in-line = omega (arith, no_more, l.in-line);
          one = unfold Stray in (stray-min s (d + 16) _ _ (stray-min s (d + 16) _ _ l.one (stray-if s (d + 16) f n p)) (stray-min s (d + 16) _ _ (stray-if s (d + 16) g (b + n) q) (stray-if s (d + 16) h (d + n) r)));
          first = below_more _ n (λ i k. omega (arith, no_more, l.first i k)) (rw (← p) (omega (arith, to-left, min-le_right column (straying f n (d + 16)))));
          second = below_more _ n (λ i k. omega (arith, no_more, l.second i k)) (rw (← q) (omega (arith, to-right, min-le_left (straying g (b + n) (d + 16)) (straying h (d + n) (d + 16)))));
          third = below_more _ n (λ i k. omega (arith, no_more, l.third i k)) (rw (← r) (omega (arith, to-right, min-le_right (straying g (b + n) (d + 16)) (straying h (d + n) (d + 16)))));
        }

  -- where the windows leave no gap, all columns before their end were seen
  pub least-all : (column : ℕ) → b ≤ 16 → d ≤ b + 16 → Least 16 column → StraysFirst s (d + 16) column
  least-all column u v l =
      record {
        in-line = l.in-line;
        before =
            λ j h.
            ⊎_elim
            (λ x.
            ⊎_elim
            (λ y. ap (column_fits s) (omega arith) ∙ below-fits (column_fits s (d + (j - d))) (d + (j - d)) (d + 16) column (l.third (j - d) (omega (arith, l.in-line))) (omega arith))
            (λ y. ap (column_fits s) (omega arith) ∙ below-fits (column_fits s (b + (j - b))) (b + (j - b)) (d + 16) column (l.second (j - b) (omega arith)) (omega arith))
            (le-or-lt d j))
            (λ x. below-fits (column_fits s j) j (d + 16) column (l.first j x) h) (le-or-lt 16 j);
        stops = l.one;
      }

-- the first of a whole line's columns, or of all that a shorter text has
pub first_of : (s : List ℕ) (end column : ℕ) → end ≤ 36 → end ≤ length s → (end < 36 → length s ≤ end) → StraysFirst s end column → FirstStray s column
first_of s end column h k m f =
    record {
      in-text = omega (arith, f.in-line);
      in-line = omega (arith, f.in-line);
      before = f.before;
      stops = λ a b. f.stops (⊎_elim (λ x. omega arith) (λ x. omega (arith, m x)) (le-or-lt 36 end));
    }

-- no column strays just where all 36 fit
pub whole-fits : (s : List ℕ) (k : ℕ) → FirstStray s k → 36 ≤ k → columns_fit s 36 ≡ true
whole-fits s k f h = columns-all s 36 (λ j i. f.before j (omega arith))

pub whole-strays : (s : List ℕ) (k : ℕ) → 36 ≤ length s → FirstStray s k → k < 36 → columns_fit s 36 ≡ false
whole-strays s k long f h =
    never (columns_fit s 36)
    (λ e. let a = columns-each s 36 e k h in let b = f.stops h (omega arith) in (let z : ◌≡◌ {A = ℕ} 0 1 = cc in omega arith))
