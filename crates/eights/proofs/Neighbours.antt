-- What stands above the least of a form, lane by lane, and the numbers of two digits that neighbours make. Assumes nothing.
use Rattle.std.proofs.Common.{◌≡◌, ℕ, zero, suc, ◌+◌, ◌-◌, ◌*◌, ◌/◌, ◌%◌, ◌^◌, ◌<◌, ◌≤◌, Bool, true, false, cond, not, ◌&&◌, ◌||◌, eqb, ltb, leb, List, [], ◌∷◌, map, length, get_or, sym, refl, ap, ◌∙◌, pow-suc, div-one, arith, lit<, ltb-true, lt-ltb, eqb-true, le-leb, leb-true}
use native.Mathlib.Nat.{pow-succ', div-div-eq-div-mul}
use lib.Arith.{digits_mod}
use Rattle.line.proofs.Runs.{and_left, and_right, and_both}
use Rattle.text.specs.Classes.{is_digit, matching}
use Rattle.text.specs.Layout.{agrees, fits}
use Rattle.text.proofs.Decimal.{digit_low, digit-high}
use Rattle.eights.specs.Lanes.{lanes, least, paired}
use Rattle.eights.proofs.Lanes.{matched-weaker, lanes_by}

abbrev pub above : ℕ → ℕ → ℕ
above c x = x - least c

-- a character that agrees lies above the least of its place, by less than ten
near : ℕ → ℕ → Bool
near c x = leb (least c) x && ltb (above c x) 10

near-either : (b : Bool) (c x : ℕ) → ((b && is_digit x) || (not b && eqb c x)) ≡ true → (leb (cond b 48 c) x && ltb (x - cond b 48 c) 10) ≡ true
near-either true c x h =
    let d : is_digit x ≡ true = only (is_digit x) h in
    let low = digit_low x d in
    let high = digit-high x d in
    and_both _ _ (le-leb 48 x low) (lt-ltb (x - 48) 10 (omega arith))
  where
    only : (a : Bool) → (a || false) ≡ true → a ≡ true
    only true e = refl
    only false e = e
near-either false c x h =
    let e : c ≡ x = eqb-true c x h in
    and_both _ _ (le-leb c x (omega arith)) (lt-ltb (x - c) 10 (omega arith))

agreed-near : (c x : ℕ) → agrees c x ≡ true → near c x ≡ true
unfolding agrees near least
agreed-near c x h = near-either (eqb c 35) c x h

near-small : (c x : ℕ) → near c x ≡ true → above c x < 10
unfolding near
near-small c x h = ltb-true _ _ (and_right (leb (least c) x) (ltb (above c x) 10) h)

above-lanes : (p s : List ℕ) → matching near p s ≡ true → lanes_by above p s + lanes (map least p) ≡ lanes s
unfolding lanes_by lanes matching near
above-lanes [] [] h = refl
above-lanes [] (x ∷ s) h = absurd (let z : ◌≡◌ {A = ℕ} 0 1 = cc in omega arith)
above-lanes (c ∷ p) [] h = absurd (let z : ◌≡◌ {A = ℕ} 0 1 = cc in omega arith)
above-lanes (c ∷ p) (x ∷ s) h =
    let own = and_left (leb (least c) x && ltb (above c x) 10) (matching near p s) h in
    let low : least c ≤ x = leb-true _ _ (and_left (leb (least c) x) (ltb (above c x) 10) own) in
    omega (arith, above-lanes p s (and_right (leb (least c) x && ltb (above c x) 10) (matching near p s) h))

-- so that all of them times eleven are within the lanes
above-small : (p s : List ℕ) → matching near p s ≡ true → lanes_by above p s * 11 < 256 ^ length p
unfolding lanes_by matching near
above-small [] [] h = lit< tt
above-small [] (x ∷ s) h = lit< tt
above-small (c ∷ p) [] h = absurd (let z : ◌≡◌ {A = ℕ} 0 1 = cc in omega arith)
above-small (c ∷ p) (x ∷ s) h =
    let small : above c x < 10 = near-small c x (and_left (near c x) (matching near p s) h) in
    let rest = above-small p s (and_right (near c x) (matching near p s) h) in
    rw (pow-suc 256 (length p)) (omega arith)

-- the first two lanes as a number, and all without the first
first-pair : (m g h : ℕ) → g < 10 → h < 10 → paired ((m * 256 + h) * 256 + g) / 1 % 256 ≡ g * 10 + h
unfolding paired
first-pair m g h a b =
    let e : ((m * 256 + h) * 256 + g) * 10 + ((m * 256 + h) * 256 + g) / 256 ≡ (m * 2561 + h * 10) * 256 + (g * 10 + h) = omega arith in
    let t : g * 10 + h < 256 = omega arith in
    rw (e, div-one ((m * 2561 + h * 10) * 256 + (g * 10 + h))) (digits_mod (m * 2561 + h * 10) t)

shed : (m g h : ℕ) → g < 10 → h < 10 → paired ((m * 256 + h) * 256 + g) / 256 ≡ paired (m * 256 + h)
unfolding paired
shed m g h a b = omega arith

pair-at : (k : ℕ) (p s : List ℕ) → matching near p s ≡ true → suc k < length p
    → paired (lanes_by above p s) / 256 ^ k % 256 ≡ above (get_or p k 0) (get_or s k 0) * 10 + above (get_or p (suc k) 0) (get_or s (suc k) 0)
unfolding lanes_by matching near
pair-at k [] s h n = absurd (omega arith)
pair-at k (c ∷ []) s h n = absurd (omega arith)
pair-at k (c ∷ d ∷ p) [] h n = absurd (let z : ◌≡◌ {A = ℕ} 0 1 = cc in omega arith)
pair-at k (c ∷ d ∷ p) (x ∷ []) h n = absurd (let f : false ≡ true = and_right (near c x) false h in let z : ◌≡◌ {A = ℕ} 0 1 = cc in omega arith)
pair-at zero (c ∷ d ∷ p) (x ∷ y ∷ s) h n =
    let rest = and_right (near c x) (matching near (d ∷ p) (y ∷ s)) h in
    first-pair (lanes_by above p s) (above c x) (above d y) (near-small c x (and_left (near c x) _ h)) (near-small d y (and_left (near d y) (matching near p s) rest))
pair-at (suc k) (c ∷ d ∷ p) (x ∷ y ∷ s) h n =
    let rest = and_right (near c x) (matching near (d ∷ p) (y ∷ s)) h in
    let cut = shed (lanes_by above p s) (above c x) (above d y) (near-small c x (and_left (near c x) _ h)) (near-small d y (and_left (near d y) (matching near p s) rest)) in
    let all = paired ((lanes_by above p s * 256 + above d y) * 256 + above c x) in
    ap (λ (n : ℕ). n % 256) (ap (λ (b : ℕ). all / b) (pow-succ' 256 k) ∙ sym (div-div-eq-div-mul all 256 (256 ^ k)) ∙ ap (λ (n : ℕ). n / 256 ^ k) cut)
    ∙ pair-at k (d ∷ p) (y ∷ s) rest (omega arith)

-- eight characters of a form
module _ (p s : List ℕ) (n : length p ≡ 8) (h : fits p s ≡ true) where
  all_near : matching near p s ≡ true
  unfolding fits
  all_near = matched-weaker agrees near agreed-near p s h

  pub least-le : lanes (map least p) ≤ lanes s
  least-le = omega (arith, above-lanes p s all_near)

  difference : lanes s - lanes (map least p) ≡ lanes_by above p s
  difference = omega (arith, above-lanes p s all_near)

  pub few : (lanes s - lanes (map least p)) * 11 < 2 ^ 64
  few = rw difference (rw n at (above-small p s all_near))

  pub pair_of : (k : ℕ) → suc k < 8
      → paired (lanes s - lanes (map least p)) / 256 ^ k % 256 ≡ above (get_or p k 0) (get_or s k 0) * 10 + above (get_or p (suc k) 0) (get_or s (suc k) 0)
  pair_of k i = rw difference (pair-at k p s all_near (omega arith))
