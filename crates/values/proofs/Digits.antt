-- Digits tested eight at a time. Assumes nothing.
use mathlib.Core.Path.{◌≡◌, refl, sym, ap, ap₂, subst, ◌∙◌}
use mathlib.Core.Bool.{Bool, true, false, ◌&&◌, ◌||◌}
use mathlib.Core.List.{List, [], ◌∷◌}
use Prim.Native.Nat.{ℕ, ◌+◌, ◌-◌, ◌≤◌}
use native.Mathlib.Omega.{arith}
use borrow.Author.Tests.{eq-eqb}
use lib.ListN.{length, take, drop, replicate, length-drop, take-append-drop}
use lib.Seq.{take_all, length-take-le, drop-drop}
use Rattle.line.specs.Runs.{every}
use Rattle.line.proofs.Runs.{and_left, and_right, and_both, every_append, every_take, every_drop}
use Rattle.text.specs.Classes.{is_digit, matching}
use Rattle.text.specs.Layout.{agrees, fits}
use Rattle.eights.specs.Lanes.{lanes, least, common, spare, keeps, is_byte}
use Rattle.eights.proofs.Lanes.{same_test}
use Rattle.eights.proofs.Windows.{window, window-kept}
use Rattle.values.specs.Registers.{good_digits}

pub or-none : (a : Bool) → (a || false) ≡ a
or-none true = refl
or-none false = refl

-- a form of digits alone asks for digits
fits-digits : (s : List ℕ) → fits (replicate (length s) 35) s ≡ every is_digit s
unfolding fits matching agrees every
fits-digits [] = refl
fits-digits (c ∷ s) = ap₂ (λ (a b : Bool). a && b) (or-none (is_digit c)) (fits-digits s)

-- eight of them, as one number
eight-kept : (s : List ℕ) (at w : ℕ) → at + 8 ≤ length s → w ≡ lanes (window at s) → every is_byte s ≡ true
    → keeps 0x3030303030303030 0xF0F0F0F0F0F0F0F0 0x0606060606060606 w ≡ every is_digit (window at s)
unfolding lanes least common spare every
eight-kept s at w r e bytes =
    let long : length (window at s) ≡ 8 = length-take-le 8 (drop at s) (omega (arith, length-drop at s)) in
    window-kept (replicate 8 35) s at w refl r e refl bytes
    ∙ subst (λ (n : ℕ). fits (replicate n 35) (window at s) ≡ every is_digit (window at s)) long (fits-digits (window at s))

-- the first eight and the last cover sixteen at most
eight-cover : (p : ℕ → Bool) (at : ℕ) (s : List ℕ) → at ≤ 8 → (every p (take 8 s) && every p (drop at s)) ≡ every p s
eight-cover p at s short =
    same_test _ _
    (λ h.
    let behind : every p (drop 8 s) ≡ true = rw (ap (λ (n : ℕ). drop n s) {x = 8} {y = at + (8 - at)} (omega arith) ∙ sym (drop-drop (8 - at) at s)) (every_drop p (8 - at) (drop at s) (and_right (every p (take 8 s)) _ h)) in
    subst (λ (l : List ℕ). every p l ≡ true) (take-append-drop 8 s) (every_append p (take 8 s) (drop 8 s) (and_left _ (every p (drop at s)) h) behind))
    (λ h. and_both _ _ (every_take p 8 s h) (every_drop p at s h))

module _ (s : List ℕ) (at w v : ℕ) (short : at ≤ 8) (long : length s ≡ at + 8) (e : w ≡ lanes (window 0 s)) (f : v ≡ lanes (window at s)) where
  pub digits-kept : every is_byte s ≡ true
      → (keeps 0x3030303030303030 0xF0F0F0F0F0F0F0F0 0x0606060606060606 w && keeps 0x3030303030303030 0xF0F0F0F0F0F0F0F0 0x0606060606060606 v) ≡ good_digits (length s) s
  unfolding good_digits
  digits-kept bytes =
      ap₂ (λ (a b : Bool). a && b) (eight-kept s 0 w (omega arith) e bytes)
      (eight-kept s at v (omega arith) f bytes ∙ ap (every is_digit) (take_all 8 (drop at s) (omega (arith, length-drop at s))))
      ∙ eight-cover is_digit at s short
      ∙ ap (λ (a : Bool). a && every is_digit s) (sym (eq-eqb (length s) (length s) refl))
