-- A count of leading characters: what a turn keeps, and where it stops. Assumes nothing.
use mathlib.Core.Path.{◌≡◌, refl, sym, ap, ◌∙◌}
use mathlib.Core.Bool.{Bool, true, false, cond, ◌||◌}
use mathlib.Core.Logic.{◌⊎◌, inl, inr}
use mathlib.Core.List.{List, [], ◌∷◌, ◌++◌}
use Prim.Native.Nat.{ℕ, zero, suc, ◌+◌, ◌-◌, ◌<◌, ◌≤◌, min}
use native.Mathlib.Omega.{arith}
use borrow.Author.Tests.{leb-true, leb-false}
use lib.Dec.{leb}
use lib.ListN.{length, take, drop, get_or, drop_of_length-le, length-drop, length-append}
use lib.Seq.{drop-drop, take-add, take-take, take_at, drop_at, length-take-le}
use Rattle.line.proofs.Runs.{left-next, and_left, and_right, every_append}
use Rattle.line.specs.Runs.{every}
use Rattle.text.specs.Classes.{is_address, is_value}
use Rattle.reading.specs.Sets.{of_kind, leading, address_length, value_length}

pub or_cases : (a b : Bool) → (a || b) ≡ true → (a ≡ true) ⊎ (b ≡ true)
or_cases true b h = inl refl
or_cases false b h = inr h

module _ (p : ℕ → Bool) where
  leading-nil : (k : ℕ) → leading p k [] ≡ 0
  unfolding leading
  leading-nil zero = refl
  leading-nil (suc k) = refl

  leading-cons : (k c : ℕ) (s : List ℕ) → p c ≡ true → leading p (suc k) (c ∷ s) ≡ suc (leading p k s)
  unfolding leading
  leading-cons k c s h = rw h

  leading-not : (k c : ℕ) (s : List ℕ) → p c ≡ false → leading p k (c ∷ s) ≡ 0
  unfolding leading
  leading-not zero c s h = refl
  leading-not (suc k) c s h = rw h

  -- so many are passed, and those that lead what is left make the whole
  module _ (s : List ℕ) (at most i whole : ℕ) (from : at ≤ i) (so_far : (i - at) + leading p (most - (i - at)) (drop i s) ≡ whole) where
    pub leading-turn : i < length s → i - at < most → p (get_or s i 0) ≡ true → (i + 1 - at) + leading p (most - (i + 1 - at)) (drop (i + 1) s) ≡ whole
    leading-turn h m t =
        let k = most - (i + 1 - at) in
        let e : leading p (most - (i - at)) (drop i s) ≡ suc (leading p k (drop (i + 1) s)) =
        ap (λ (n : ℕ). leading p n (drop i s)) {x = most - (i - at)} {y = suc k} (omega arith) ∙ ap (leading p (suc k)) (left-next i s h) ∙ leading-cons k (get_or s i 0) (drop (i + 1) s) t in
        omega arith

    pub leading-stop : i < length s → p (get_or s i 0) ≡ false → i - at ≡ whole
    leading-stop h t =
        let e : leading p (most - (i - at)) (drop i s) ≡ 0 = ap (leading p (most - (i - at))) (left-next i s h) ∙ leading-not (most - (i - at)) (get_or s i 0) (drop (i + 1) s) t in
        omega arith

    pub leading_end : length s ≤ i → i - at ≡ whole
    leading_end h =
        let e : leading p (most - (i - at)) (drop i s) ≡ 0 = ap (leading p (most - (i - at))) (drop_of_length-le s h) ∙ leading-nil (most - (i - at)) in
        omega arith

    pub leading-most : most ≤ i - at → i - at ≡ whole
    unfolding leading
    leading-most h =
        let e : leading p (most - (i - at)) (drop i s) ≡ 0 = ap (λ (n : ℕ). leading p n (drop i s)) {x = most - (i - at)} {y = 0} (omega arith) in
        omega arith

    -- all that there are, or as many as are looked at
    pub leading-all : min (length s - at) most ≤ i - at → i - at ≡ whole
    leading-all h = by_end (leb (length s) i) refl
      where
        by_end : (over : Bool) → leb (length s) i ≡ over → i - at ≡ whole
        by_end true e = leading_end (leb-true (length s) i e)
        by_end false e = leading-most (omega (arith, h, leb-false (length s) i e))

  -- none, at the place itself
  pub none_passed : (s : List ℕ) (at : ℕ) → every p (take (at - at) (drop at s)) ≡ true
  unfolding every
  none_passed s at = ap (λ (n : ℕ). every p (take n (drop at s))) {x = at - at} {y = 0} (omega arith)

  -- those that were passed lead
  leading-over : (k most : ℕ) (s : List ℕ) → k ≤ length s → k ≤ most → every p (take k s) ≡ true → k + leading p (most - k) (drop k s) ≡ leading p most s
  unfolding every
  leading-over zero most s l m h =
      let e : leading p (most - 0) s ≡ leading p most s = ap (λ (n : ℕ). leading p n s) {x = most - 0} {y = most} (omega arith) in
      omega arith
  leading-over (suc k) most [] l m h = absurd (omega arith)
  leading-over (suc k) zero (c ∷ s) l m h = absurd (omega arith)
  leading-over (suc k) (suc most) (c ∷ s) l m h =
      let t : p c ≡ true = and_left (p c) (every p (take k s)) h in
      let r : k + leading p (most - k) (drop k s) ≡ leading p most s = leading-over k most s (omega arith) (omega arith) (and_right (p c) (every p (take k s)) h) in
      let e : leading p (suc most - suc k) (drop k s) ≡ leading p (most - k) (drop k s) = ap (λ (n : ℕ). leading p n (drop k s)) {x = suc most - suc k} {y = most - k} (omega arith) in
      let f : leading p (suc most) (c ∷ s) ≡ suc (leading p most s) = leading-cons most c s t in
      omega arith

  pub passed : (s : List ℕ) (at next most : ℕ) → at ≤ next → next ≤ length s → next - at ≤ most → every p (take (next - at) (drop at s)) ≡ true
      → (next - at) + leading p (most - (next - at)) (drop next s) ≡ leading p most (drop at s)
  passed s at next most from there few h =
      let e : drop (next - at) (drop at s) ≡ drop next s = drop-drop (next - at) at s ∙ ap (λ (n : ℕ). drop n s) {x = at + (next - at)} {y = next} (omega arith) in
      rw (← e) (leading-over (next - at) most (drop at s) (omega (arith, length-drop at s)) few h)

  -- eight more that were passed
  pub eight-more : (s : List ℕ) (at i : ℕ) → at ≤ i → every p (take (i - at) (drop at s)) ≡ true → every p (take (i + 8 - i) (drop i s)) ≡ true
      → every p (take (i + 8 - at) (drop at s)) ≡ true
  eight-more s at i from h k =
      let n : i + 8 - at ≡ i - at + 8 = omega arith in
      let m : i + 8 - i ≡ 8 = omega arith in
      let d : drop (i - at) (drop at s) ≡ drop i s = drop-drop (i - at) at s ∙ ap (λ (j : ℕ). drop j s) {x = at + (i - at)} {y = i} (omega arith) in
      let next : every p (take 8 (drop i s)) ≡ true = rw m at k in
      rw (n, take-add (i - at) 8 (drop at s), d) (every_append p (take (i - at) (drop at s)) (take 8 (drop i s)) h next)

-- eight from the front of what is left: they stand there, and the rest is left
pub eight-taken : (s x t : List ℕ) (i end : ℕ) → end ≤ length s → i ≤ end → take (end - i) (drop i s) ≡ x ++ t → length x ≡ 8
    → (i + 8 ≤ end) × (x ≡ take (i + 8 - i) (drop i s)) × (t ≡ take (end - (i + 8)) (drop (i + 8) s))
eight-taken s x t i end h from e k =
    let u = drop i s in
    let r = end - (i + 8) in
    let n : length (take (end - i) u) ≡ end - i = length-take-le (end - i) u (omega (arith, length-drop i s)) in
    let m : i + 8 ≤ end = omega (arith, n, ap length e, length-append x t) in
    let eight : take 8 u ≡ x = sym (take-take 8 (end - i) u (omega (arith, m))) ∙ ap (take 8) e ∙ take_at x t 8 k in
    let cut : take (end - i) u ≡ take 8 u ++ take r (drop 8 u) = ap (λ (j : ℕ). take j u) {x = end - i} {y = 8 + r} (omega (arith, m)) ∙ take-add 8 r u in
    let left : t ≡ take r (drop 8 u) =
    sym (drop_at x t 8 k) ∙ ap (drop 8) (sym e ∙ cut) ∙ drop_at (take 8 u) (take r (drop 8 u)) 8 (length-take-le 8 u (omega (arith, m, length-drop i s))) in
    (m, sym eight ∙ ap (λ (j : ℕ). take j u) {x = 8} {y = i + 8 - i} (omega arith), left ∙ ap (take r) (drop-drop 8 i s))

led_on : (p : ℕ → Bool) (c k : ℕ) (s : List ℕ) (b : Bool) → p c ≡ b → every p (take k s) ≡ true → every p (take (cond b (suc k) 0) (c ∷ s)) ≡ true
unfolding every
led_on p c k s true e h = rw e h
led_on p c k s false e h = refl

-- those that lead are of the kind
led : (p : ℕ → Bool) (most : ℕ) (s : List ℕ) → every p (take (leading p most s) s) ≡ true
unfolding leading every
led p zero s = refl
led p (suc most) [] = refl
led p (suc most) (c ∷ s) = led_on p c (leading p most s) s (p c) refl (led p most s)

pub address-led : (t : List ℕ) → every is_address (take (address_length t) t) ≡ true
unfolding address_length of_kind
address-led t = led (of_kind false) 17 t

pub value-led : (t : List ℕ) (a : ℕ) → every is_value (take (value_length t a) (drop (a + 1) t)) ≡ true
unfolding value_length of_kind
value-led t a = led (of_kind true) 33 (drop (a + 1) t)
