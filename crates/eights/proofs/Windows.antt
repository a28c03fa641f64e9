-- Eight characters from a place of a text on: the form's test there, the numbers there, and a text that two such windows cover.
-- Assumes nothing.
use Rattle.std.proofs.Common.{◌≡◌, ℕ, zero, suc, ◌+◌, ◌-◌, ◌*◌, ◌/◌, ◌%◌, ◌^◌, ◌<◌, ◌≤◌, Bool, true, ◌&&◌, ltb, List, [], ◌∷◌, map, length, get_or, take, drop, sym, refl, ap, ◌∙◌, le_of_suc-le-suc, ap₂, arith, div-one, pow-suc, length-drop, length-take-le, get_or-drop, get_or-take, lt-ltb}
use native.Mathlib.Nat.{div-div-eq-div-mul}
use Rattle.std.specs.Int.{byte_at, bytes_low_first}
use Rattle.line.specs.Runs.{every}
use Rattle.line.proofs.Runs.{and_left, and_right, and_both, and_assoc, every_take, every_drop, left-next}
use Rattle.text.specs.Classes.{matching}
use Rattle.text.specs.Decimal.{number_at}
use Rattle.text.specs.Layout.{fits}
use Rattle.text.proofs.Decimal.{two_at}
use Rattle.eights.specs.Lanes.{lanes, least, common, spare, keeps, paired, is_byte, unlaned}
use Rattle.eights.proofs.Lanes.{same_test, within}
use Rattle.eights.proofs.Forms.{raw, form-kept}
use Rattle.eights.proofs.Neighbours.{above, least-le, few, pair_of}

-- ---- bytes

pub all-bytes : (s : List ℕ) → ((i : ℕ) → get_or s i 0 < 256) → every is_byte s ≡ true
unfolding every is_byte
all-bytes [] h = refl
all-bytes (x ∷ s) h = and_both (ltb x 256) (every is_byte s) (lt-ltb x 256 (h 0)) (all-bytes s (λ i. h (suc i)))

of-second : (p s : List ℕ) → length p ≡ length s → every is_byte s ≡ true → matching (within raw) p s ≡ true
unfolding every matching is_byte within
of-second [] [] n h = refl
of-second [] (x ∷ s) n h = absurd (omega arith)
of-second (c ∷ p) [] n h = absurd (omega arith)
of-second (c ∷ p) (x ∷ s) n h =
    and_both (ltb x 256) (matching (within raw) p s) (and_left (ltb x 256) (every is_byte s) h) (of-second p s (omega arith) (and_right (ltb x 256) (every is_byte s) h))

of-first : (f : ℕ → Bool) (p s : List ℕ) → length p ≡ length s → every f p ≡ true → matching (λ c x. f c) p s ≡ true
unfolding every matching
of-first f [] [] n h = refl
of-first f [] (x ∷ s) n h = absurd (omega arith)
of-first f (c ∷ p) [] n h = absurd (omega arith)
of-first f (c ∷ p) (x ∷ s) n h =
    and_both (f c) (matching (λ c x. f c) p s) (and_left (f c) (every f p) h) (of-first f p s (omega arith) (and_right (f c) (every f p) h))

-- ---- the characters from a place on, one by one

unfoldable pub spelled : ℕ → ℕ → ℕ → List ℕ → List ℕ
spelled zero k at s = []
spelled (suc n) k at s = get_or s (at + k) 0 ∷ spelled n (suc k) at s

pub take-spelled : (n k at : ℕ) (s : List ℕ) → at + k + n ≤ length s → take n (drop (at + k) s) ≡ spelled n k at s
unfolding spelled
take-spelled zero k at s h = refl
take-spelled (suc n) k at s h =
    let e : at + k + 1 ≡ at + suc k = omega arith in
    rw (left-next (at + k) s (omega arith), e) (ap (λ (l : List ℕ). get_or s (at + k) 0 ∷ l) (take-spelled n (suc k) at s (omega arith)))

-- eight of them in a number of eight bytes, the lowest first
pub eight-joined : (s : List ℕ) (at w : ℕ) → at + 8 ≤ length s
    → w ≡ lanes (get_or s at 0 ∷ get_or s (at + 1) 0 ∷ get_or s (at + 2) 0 ∷ get_or s (at + 3) 0 ∷ get_or s (at + 4) 0 ∷ get_or s (at + 5) 0 ∷ get_or s (at + 6) 0 ∷ get_or s (at + 7) 0 ∷ [])
    → w ≡ lanes (take 8 (drop at s))
unfolding spelled
eight-joined s at w h e =
    let z : at ≡ at + 0 = omega arith in
    let t : take 8 (drop at s) ≡ spelled 8 0 at s = ap (λ (k : ℕ). take 8 (drop k s)) z ∙ take-spelled 8 0 at s (omega arith) in
    let first : get_or s (at + 0) 0 ≡ get_or s at 0 = ap (λ (k : ℕ). get_or s k 0) (sym z) in
    rw (t, first) e

-- a number's bytes, the lowest first, are its lanes
pub low-first : (i n w : ℕ) → bytes_low_first i n w ≡ unlaned n (w / 256 ^ i)
unfolding unlaned
low-first i zero w = refl
low-first i (suc n) w =
    let next : w / 256 ^ suc i ≡ w / 256 ^ i / 256 = ap (λ (k : ℕ). w / k) (pow-suc 256 i) ∙ sym (div-div-eq-div-mul w (256 ^ i) 256) in
    ap₂ ◌∷◌ (byte i) (low-first (suc i) n w ∙ ap (unlaned n) next)
  where
    byte : (i : ℕ) → byte_at i w ≡ w / 256 ^ i % 256
    byte zero = ap (λ (k : ℕ). k % 256) (sym (div-one w))
    byte (suc i) = refl

-- ---- a window

abbrev pub window : ℕ → List ℕ → List ℕ
window at s = take 8 (drop at s)

module _ (p s : List ℕ) (at w : ℕ) (n : length p ≡ 8) (r : at + 8 ≤ length s) (e : w ≡ lanes (window at s)) where
  window-long : length (window at s) ≡ 8
  window-long = length-take-le 8 (drop at s) (omega (arith, length-drop at s))

  pub window-kept : every (λ c. ltb (least c) 256) p ≡ true → every is_byte s ≡ true
      → keeps (lanes (map least p)) (lanes (map common p)) (lanes (map spare p)) w ≡ fits p (window at s)
  window-kept low bytes =
      let same : length p ≡ length (window at s) = n ∙ sym window-long in
      rw e
      (form-kept p (window at s) n (of-second p (window at s) same (every_take is_byte 8 (drop at s) (every_drop is_byte at s bytes)))
      (of-first (λ c. ltb (least c) 256) p (window at s) same low))

  module _ (h : fits p (window at s) ≡ true) where
    pub window-least : lanes (map least p) ≤ w
    window-least = rw e (least-le p (window at s) n h)

    pub window-few : (w - lanes (map least p)) * 11 < 2 ^ 64
    window-few = rw e (few p (window at s) n h)

    pub window-pair : (k : ℕ) → suc k < 8
        → paired (w - lanes (map least p)) / 256 ^ k % 256 ≡ above (get_or p k 0) (get_or s (at + k) 0) * 10 + above (get_or p (suc k) 0) (get_or s (at + suc k) 0)
    window-pair k i =
        let a : get_or (window at s) k 0 ≡ get_or s (at + k) 0 = get_or-take 8 (drop at s) k 0 (omega arith) ∙ get_or-drop at s k 0 in
        let b : get_or (window at s) (suc k) 0 ≡ get_or s (at + suc k) 0 = get_or-take 8 (drop at s) (suc k) 0 i ∙ get_or-drop at s (suc k) 0 in
        rw (e, ← a, ← b) (pair_of p (window at s) n h k i)

    -- two digits are the number that they say
    pub window-two : (k : ℕ) → suc k < 8 → get_or p k 0 ≡ 35 → get_or p (suc k) 0 ≡ 35
        → paired (w - lanes (map least p)) / 256 ^ k % 256 ≡ number_at s (at + k) 2
    unfolding least
    window-two k i c d =
        let t : at + suc k ≡ at + k + 1 = omega arith in
        window-pair k i ∙ (rw (c, d, t) (sym (two_at s (at + k) (omega arith))))

-- ---- two windows

matched-take : (f : ℕ → ℕ → Bool) (a : ℕ) (p s : List ℕ) → matching f p s ≡ true → matching f (take a p) (take a s) ≡ true
unfolding matching
matched-take f zero p s h = refl
matched-take f (suc a) [] [] h = refl
matched-take f (suc a) [] (x ∷ s) h = h
matched-take f (suc a) (c ∷ p) [] h = h
matched-take f (suc a) (c ∷ p) (x ∷ s) h =
    and_both (f c x) (matching f (take a p) (take a s)) (and_left (f c x) (matching f p s) h) (matched-take f a p s (and_right (f c x) (matching f p s) h))

-- a text matches where its front does, and what is behind a place in that front
pub covered : (f : ℕ → ℕ → Bool) (b a : ℕ) (p s : List ℕ) → b ≤ a → matching f p s ≡ (matching f (take a p) (take a s) && matching f (drop b p) (drop b s))
unfolding matching
covered f zero a p s h =
    same_test _ _ (λ e. and_both (matching f (take a p) (take a s)) (matching f p s) (matched-take f a p s e) e)
    (λ e. and_right (matching f (take a p) (take a s)) (matching f p s) e)
covered f (suc b) zero p s h = absurd (omega arith)
covered f (suc b) (suc a) [] [] h = refl
covered f (suc b) (suc a) [] (x ∷ s) h = refl
covered f (suc b) (suc a) (c ∷ p) [] h = refl
covered f (suc b) (suc a) (c ∷ p) (x ∷ s) h =
    ap (λ (t : Bool). f c x && t) (covered f b a p s (le_of_suc-le-suc h)) ∙ sym (and_assoc (f c x) (matching f (take a p) (take a s)) (matching f (drop b p) (drop b s)))
