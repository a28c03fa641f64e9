-- Each way out of the reader is the case of the definition that its tests name: stated over the data, the place and the two lengths.
-- Assumes nothing.
use mathlib.Core.Path.{◌≡◌, refl, sym, ap, ◌∙◌}
use mathlib.Core.Bool.{Bool, true, false, cond, ◌&&◌, and-true}
use mathlib.Core.List.{List, [], ◌∷◌}
use Prim.Native.Nat.{ℕ, zero, suc, ◌+◌, ◌-◌, ◌<◌, ◌≤◌}
use native.Mathlib.Omega.{arith}
use borrow.Author.Tests.{le-leb, lt-leb, eq-eqb, ne_eqb, eqb-true, eqb-false}
use lib.Dec.{leb, eqb}
use Rattle.std.specs.List.{starts_with}
use lib.ListN.{length, take, drop, get_or, length-drop}
use lib.Seq.{take_all, drop-drop, get_or-drop}
use Rattle.text.specs.Classes.{between, is_digit, is_letter, is_address}
use Rattle.reading.specs.Sets.{of_kind, leading, starts_with3, end_at, malformed_at, set_at, is_set, address_length, value_length, set_here, set_read}

-- `!` is no character of an address
bang : (k c : ℕ) (s : List ℕ) → c ≡ 33 → leading (of_kind false) k (c ∷ s) ≡ 0
unfolding leading of_kind is_address is_letter is_digit between
bang zero c s e = refl
bang (suc k) c s e = rw e

not_both : (b : Bool) → (b && false) ≡ false
not_both true = refl
not_both false = refl

-- so where an address starts, no line `!` does
pub no_end : (k : ℕ) (s : List ℕ) → (leading (of_kind false) k s ≡ 0 → ⊥) → starts_with3 33 13 10 s ≡ false
unfolding starts_with3
no_end k [] h = refl
no_end k (c ∷ s) h = rw (ne_eqb c 33 (λ e. h (bang k c s e))) (right-false (leb 3 (length (c ∷ s))))
  where
    right-false : (b : Bool) → (b && false) ≡ false
    right-false true = refl
    right-false false = refl

turned : (x y : ℕ) → eqb x y ≡ eqb y x
turned x y = by_test (eqb x y) refl
  where
    by_test : (b : Bool) → eqb x y ≡ b → b ≡ eqb y x
    by_test true e = sym (eq-eqb y x (sym (eqb-true x y e)))
    by_test false e = sym (ne_eqb y x (λ k. eqb-false x y e (sym k)))

-- three characters as the library looks for them
stands : (a b c : ℕ) (u : List ℕ) → starts_with eqb u (a ∷ b ∷ c ∷ []) ≡ starts_with3 a b c u
unfolding starts_with3
stands a b c [] = refl
stands a b c (x ∷ []) = not_both (eqb a x)
stands a b c (x ∷ y ∷ []) = ap (λ (r : Bool). eqb a x && r) (not_both (eqb b y)) ∙ not_both (eqb a x)
stands a b c (x ∷ y ∷ z ∷ u) =
    rw (le-leb 3 (length (x ∷ y ∷ z ∷ u)) (omega arith), turned x a, turned y b, turned z c) (ap (λ (r : Bool). eqb a x && (eqb b y && r)) (and-true (eqb c z)))

-- in what is left from a place on
pub stand-at : (a b c : ℕ) (s : List ℕ) (at : ℕ) → starts_with eqb (take (length s - at) (drop at s)) (a ∷ b ∷ c ∷ []) ≡ starts_with3 a b c (drop at s)
stand-at a b c s at = rw (take_all (length s - at) (drop at s) (omega (arith, length-drop at s))) (stands a b c (drop at s))

pub past_end : (s : List ℕ) (at : ℕ) → length s ≤ at → end_at at ≡ set_read s at
unfolding set_read
past_end s at h = rw (le-leb (length s) at h)

module _ (s : List ℕ) (at : ℕ) (inside : at < length s) where
  pub line-end : starts_with3 33 13 10 (drop at s) ≡ true → end_at at ≡ set_read s at
  unfolding set_read
  line-end h = rw (lt-leb (length s) at inside, h)

  module _ (a : ℕ) (is-a : a ≡ leading (of_kind false) 17 (drop at s)) (goes_on : starts_with3 33 13 10 (drop at s) ≡ false) where
    -- a set or not, by one test of both lengths
    decided : (v : ℕ) (ok : Bool) → v ≡ leading (of_kind true) 33 (drop (a + 1) (drop at s)) → is_set (drop at s) a v ≡ ok
        → cond ok (set_at at a v) (malformed_at at) ≡ set_read s at
    unfolding set_read set_here address_length value_length
    decided v ok is-v h = rw (lt-leb (length s) at inside, goes_on, ← is-a, ← is-v, h)

    -- whatever the value's length, where the address or the bracket is wrong
    pub no_address : ((leb 1 a && leb a 16) && eqb (get_or s (at + a) 0) 40) ≡ false → malformed_at at ≡ set_read s at
    unfolding is_set
    no_address h =
        let e : get_or (drop at s) a 0 ≡ get_or s (at + a) 0 = get_or-drop at s a 0 in
        decided (leading (of_kind true) 33 (drop (a + 1) (drop at s))) false refl (rw (e, h))

    -- where they are right, the value and what closes it decide
    pub by_value : ((leb 1 a && leb a 16) && eqb (get_or s (at + a) 0) 40) ≡ true → (v : ℕ) (ok : Bool) → v ≡ leading (of_kind true) 33 (drop (at + a + 1) s)
        → (leb v 32 && starts_with3 41 13 10 (drop (at + a + 1 + v) s)) ≡ ok → cond ok (set_at at a v) (malformed_at at) ≡ set_read s at
    unfolding is_set
    by_value h v ok is-v k =
        let e : get_or (drop at s) a 0 ≡ get_or s (at + a) 0 = get_or-drop at s a 0 in
        let f : drop (a + 1) (drop at s) ≡ drop (at + a + 1) s = drop-drop (a + 1) at s ∙ ap (λ (n : ℕ). drop n s) {x = at + (a + 1)} {y = at + a + 1} (omega arith) in
        let g : drop (a + 1 + v) (drop at s) ≡ drop (at + a + 1 + v) s = drop-drop (a + 1 + v) at s ∙ ap (λ (n : ℕ). drop n s) {x = at + (a + 1 + v)} {y = at + a + 1 + v} (omega arith) in
        decided v ok (rw f is-v) (rw (e, h, g) k)
