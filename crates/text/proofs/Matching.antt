-- Two texts that are gone through together, and what a match says. Assumes nothing.
use mathlib.Core.Path.{◌≡◌, refl, sym, ap, ap₂, ◌∙◌}
use mathlib.Core.Bool.{Bool, true, false, ◌&&◌, and-true, and-false}
use mathlib.Core.List.{List, [], ◌∷◌, ◌++◌}
use Prim.Native.Nat.{ℕ, suc, ◌+◌, ◌<◌, ◌≤◌}
use native.Mathlib.Omega.{arith}
use borrow.Author.Tests.{eqb-true, eq-eqb}
use lib.ListN.{length, get_or, drop, drop_of_length-le}
use lib.Dec.{eqb}
use Rattle.line.proofs.Runs.{left-next, and_left, and_right, and_assoc}
use Rattle.text.specs.Classes.{matching, same_text}

module _ (p : ℕ → ℕ → Bool) where
  -- texts of two lengths do not match
  pub matching-length : (s t : List ℕ) → (length s ≡ length t → ⊥) → matching p s t ≡ false
  unfolding matching
  matching-length [] [] h = absurd (h refl)
  matching-length [] (y ∷ t) h = refl
  matching-length (x ∷ s) [] h = refl
  matching-length (x ∷ s) (y ∷ t) h = rw (matching-length s t (λ e. h (ap suc e))) (right-false (p x y))
    where
      right-false : (b : Bool) → (b && false) ≡ false
      right-false true = refl
      right-false false = refl

  -- a match is of one length
  pub matched-length : (s t : List ℕ) → matching p s t ≡ true → length s ≡ length t
  unfolding matching
  matched-length [] [] e = refl
  matched-length [] (y ∷ t) e = absurd (let z : ◌≡◌ {A = ℕ} 0 1 = cc in omega arith)
  matched-length (x ∷ s) [] e = absurd (let z : ◌≡◌ {A = ℕ} 0 1 = cc in omega arith)
  matched-length (x ∷ s) (y ∷ t) e = ap suc (matched-length s t (and_right (p x y) (matching p s t) e))

  -- a flag that all matched so far, with what is left, says it of the whole
  module _ (s t : List ℕ) (i : ℕ) (ok whole : Bool) where
    pub matching-turn : i < length s → i < length t → (ok && matching p (drop i s) (drop i t)) ≡ whole
        → ((ok && p (get_or s i 0) (get_or t i 0)) && matching p (drop (i + 1) s) (drop (i + 1) t)) ≡ whole
    unfolding matching
    matching-turn h k e =
        and_assoc ok (p (get_or s i 0) (get_or t i 0)) (matching p (drop (i + 1) s) (drop (i + 1) t))
        ∙ (rw (left-next i s h, left-next i t k) at e)

    pub matching-end : length s ≤ i → length t ≤ i → (ok && matching p (drop i s) (drop i t)) ≡ whole → ok ≡ whole
    unfolding matching
    matching-end h k e = sym (and-true ok) ∙ (rw (drop_of_length-le s h, drop_of_length-le t k) at e)

  -- joined texts, the first parts of one length
  pub matching-append : (s t u v : List ℕ) → length s ≡ length t → matching p (s ++ u) (t ++ v) ≡ (matching p s t && matching p u v)
  unfolding matching
  matching-append [] [] u v h = refl
  matching-append [] (y ∷ t) u v h = absurd (omega arith)
  matching-append (x ∷ s) [] u v h = absurd (omega arith)
  matching-append (x ∷ s) (y ∷ t) u v h =
      ap (λ (b : Bool). p x y && b) (matching-append s t u v (omega arith)) ∙ sym (and_assoc (p x y) (matching p s t) (matching p u v))

-- the test for the same text is equality
pub same-is : (s t : List ℕ) → same_text s t ≡ true → s ≡ t
unfolding same_text matching
same-is [] [] e = refl
same-is [] (y ∷ t) e = absurd (let z : ◌≡◌ {A = ℕ} 0 1 = cc in omega arith)
same-is (x ∷ s) [] e = absurd (let z : ◌≡◌ {A = ℕ} 0 1 = cc in omega arith)
same-is (x ∷ s) (y ∷ t) e = ap₂ ◌∷◌ (eqb-true x y (and_left (eqb x y) (matching eqb s t) e)) (same-is s t (and_right (eqb x y) (matching eqb s t) e))

pub same_self : (s : List ℕ) → same_text s s ≡ true
unfolding same_text matching
same_self [] = refl
same_self (x ∷ s) = rw (eq-eqb x x refl) (same_self s)

-- the last characters apart
pub same-snoc : (s t : List ℕ) (a b : ℕ) → same_text (s ++ (a ∷ [])) (t ++ (b ∷ [])) ≡ (same_text s t && eqb a b)
unfolding same_text matching
same-snoc [] [] a b = and-true (eqb a b)
same-snoc [] (y ∷ []) a b = and-false (eqb a y)
same-snoc [] (y ∷ z ∷ t) a b = and-false (eqb a y)
same-snoc (x ∷ []) [] a b = and-false (eqb x b)
same-snoc (x ∷ z ∷ s) [] a b = and-false (eqb x b)
same-snoc (x ∷ s) (y ∷ t) a b = ap (λ (c : Bool). eqb x y && c) (same-snoc s t a b) ∙ sym (and_assoc (eqb x y) (matching eqb s t) (eqb a b))
