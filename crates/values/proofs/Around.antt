-- The digits around a serial's space, eight of them as one number. Assumes nothing.
use mathlib.Core.Path.{◌≡◌, refl, sym, ap, ap₂, subst, ◌∙◌}
use mathlib.Core.Bool.{true}
use mathlib.Core.List.{List, [], ◌∷◌, ◌++◌}
use Prim.Native.Nat.{ℕ, ◌+◌, ◌-◌, ◌*◌, ◌/◌, ◌%◌, ◌<◌, ◌≤◌}
use native.Mathlib.Omega.{arith}
use borrow.Author.Tests.{eqb-true}
use lib.Bits.{bit_or, or_block, or_zero_r}
use lib.Dec.{eqb, lit<}
use lib.ListN.{length, get_or, take, drop, replicate}
use lib.Seq.{take_all}
use Rattle.line.specs.Runs.{every}
use Rattle.line.proofs.Runs.{and_left, and_right, and_both, below_all, every_append, every_take, every_drop}
use Rattle.text.specs.Classes.{is_digit, matching}
use Rattle.text.specs.Layout.{pattern, agrees, fits}
use Rattle.text.proofs.Decimal.{digit_low, digit-high}
use Rattle.eights.specs.Lanes.{lanes, is_byte, unlaned}
use Rattle.eights.proofs.Windows.{window, spelled, take-spelled}
use Rattle.eights.proofs.Sending.{unlaned-lanes}
use Rattle.values.specs.Serials.{serial_form}
use Rattle.values.proofs.Digits.{or-none}
use Rattle.values.proofs.Fields.{fits-long}

abbrev pub around : List ℕ → List ℕ
around s = take 3 s ++ drop 4 s

own-digit : (c : ℕ) → agrees 35 c ≡ true → (is_digit c ≡ true) × (48 ≤ c) × (c ≤ 57)
unfolding agrees
own-digit c h =
    let d : is_digit c ≡ true = sym (or-none (is_digit c)) ∙ h in
    (d, digit_low c d, digit-high c d)

own-space : (c : ℕ) → agrees 32 c ≡ true → c ≡ 32
unfolding agrees
own-space c h = sym (eqb-true 32 c h)

-- the first eight characters and the last as numbers, less the least of their forms: the first eight digits
abbrev pub joined : ℕ → ℕ → ℕ
joined w v = (w - 0x3030303020303030) % 0x1000000 + (v - 0x3030303030303020) / 0x100 % 0x10000000000 * 0x1000000

pub record Around (w v : ℕ) (d : List ℕ) : Type 0 where
  pub first : 0x3030303020303030 ≤ w
  pub last : 0x3030303030303020 ≤ v
  pub all : bit_or (joined w v) 0x3030303030303030 ≡ lanes d

-- '0' put on numbers below ten by its bits is added to them, in all lanes
digit_or : (r : ℕ) → r < 10 → bit_or r 48 ≡ r + 48
digit_or r h = eqb-true _ _ (below_all 10 (λ r. eqb (bit_or r 48) (r + 48)) refl r h)

or-zeros : (s : List ℕ) (x : ℕ) → every is_digit s ≡ true → x + lanes (replicate (length s) 48) ≡ lanes s → bit_or x (lanes (replicate (length s) 48)) ≡ lanes s
unfolding lanes every
or-zeros [] x h e = or_zero_r x ∙ (omega arith)
or-zeros (c ∷ s) x h e =
    let own = and_left (is_digit c) (every is_digit s) h in
    let low = digit_low c own in
    let high = digit-high c own in
    let zeros = lanes (replicate (length s) 48) in
    let split : x ≡ x / 256 * 256 + x % 256 = omega arith in
    let r : x % 256 ≡ c - 48 = omega arith in
    let up : x / 256 + zeros ≡ lanes s = omega arith in
    let one : bit_or (x % 256) 48 ≡ c = digit_or (x % 256) (omega arith) ∙ (omega arith) in
    ap (λ (n : ℕ). bit_or n (zeros * 256 + 48)) split
    ∙ or_block 8 (x / 256) zeros (x % 256) 48 (omega arith) (lit< tt)
    ∙ ap₂ (λ (a b : ℕ). a * 256 + b) (or-zeros s (x / 256) (and_right (is_digit c) (every is_digit s) h) up) one

-- three digits, what follows them; five digits after the space, and two
parts : (t h v u : ℕ) → 0x303030 ≤ t → t ≤ 0x393939 → 0x3030303020 ≤ h → 0x3030303030 ≤ v → v ≤ 0x3939393939 → 0x3030 ≤ u
    → joined (h * 0x1000000 + t) ((u * 0x10000000000 + v) * 0x100 + 32) + 0x3030303030303030 ≡ v * 0x1000000 + t
parts t h v u a b c d e f =
    let low : (h * 0x1000000 + t - 0x3030303020303030) % 0x1000000 ≡ t - 0x303030 = omega arith in
    let high : ((u * 0x10000000000 + v) * 0x100 + 32 - 0x3030303030303020) / 0x100 % 0x10000000000 ≡ v - 0x3030303030 = omega arith in
    rw (low, high) (omega arith)

module _ (c0 c1 c2 c3 c4 c5 c6 c7 c8 c9 c10 : ℕ) where
  of-eleven : fits (pattern serial_form) (c0 ∷ c1 ∷ c2 ∷ c3 ∷ c4 ∷ c5 ∷ c6 ∷ c7 ∷ c8 ∷ c9 ∷ c10 ∷ []) ≡ true → Around (lanes (c0 ∷ c1 ∷ c2 ∷ c3 ∷ c4 ∷ c5 ∷ c6 ∷ c7 ∷ [])) (lanes (c3 ∷ c4 ∷ c5 ∷ c6 ∷ c7 ∷ c8 ∷ c9 ∷ c10 ∷ [])) (c0 ∷ c1 ∷ c2 ∷ c4 ∷ c5 ∷ c6 ∷ c7 ∷ c8 ∷ [])
  unfolding fits matching pattern lanes every
  of-eleven h =
      let a0 = own-digit c0 (and_left (agrees 35 c0) _ h) in
      let r0 = and_right (agrees 35 c0) _ h in
      let a1 = own-digit c1 (and_left (agrees 35 c1) _ r0) in
      let r1 = and_right (agrees 35 c1) _ r0 in
      let a2 = own-digit c2 (and_left (agrees 35 c2) _ r1) in
      let r2 = and_right (agrees 35 c2) _ r1 in
      let a3 = own-space c3 (and_left (agrees 32 c3) _ r2) in
      let r3 = and_right (agrees 32 c3) _ r2 in
      let a4 = own-digit c4 (and_left (agrees 35 c4) _ r3) in
      let r4 = and_right (agrees 35 c4) _ r3 in
      let a5 = own-digit c5 (and_left (agrees 35 c5) _ r4) in
      let r5 = and_right (agrees 35 c5) _ r4 in
      let a6 = own-digit c6 (and_left (agrees 35 c6) _ r5) in
      let r6 = and_right (agrees 35 c6) _ r5 in
      let a7 = own-digit c7 (and_left (agrees 35 c7) _ r6) in
      let r7 = and_right (agrees 35 c7) _ r6 in
      let a8 = own-digit c8 (and_left (agrees 35 c8) _ r7) in
      let r8 = and_right (agrees 35 c8) _ r7 in
      let a9 = own-digit c9 (and_left (agrees 35 c9) _ r8) in
      let r9 = and_right (agrees 35 c9) _ r8 in
      let a10 = own-digit c10 (and_left (agrees 35 c10) _ r9) in
      let t = lanes (c0 ∷ c1 ∷ c2 ∷ []) in
      let u = lanes (c9 ∷ c10 ∷ []) in
      let f = lanes (c3 ∷ c4 ∷ c5 ∷ c6 ∷ c7 ∷ []) in
      let g = lanes (c4 ∷ c5 ∷ c6 ∷ c7 ∷ c8 ∷ []) in
      let w = lanes (c0 ∷ c1 ∷ c2 ∷ c3 ∷ c4 ∷ c5 ∷ c6 ∷ c7 ∷ []) in
      let v = lanes (c3 ∷ c4 ∷ c5 ∷ c6 ∷ c7 ∷ c8 ∷ c9 ∷ c10 ∷ []) in
      let ew : w ≡ f * 0x1000000 + t = omega arith in
      let ev : v ≡ (u * 0x10000000000 + g) * 0x100 + 32 = omega arith in
      let e : joined w v + 0x3030303030303030 ≡ g * 0x1000000 + t = rw (ew, ev) (parts t f g u (omega arith) (omega arith) (omega arith) (omega arith) (omega arith) (omega arith)) in
      let digits : every is_digit (c0 ∷ c1 ∷ c2 ∷ c4 ∷ c5 ∷ c6 ∷ c7 ∷ c8 ∷ []) ≡ true = and_both _ _ a0.0 (and_both _ _ a1.0 (and_both _ _ a2.0 (and_both _ _ a4.0 (and_both _ _ a5.0 (and_both _ _ a6.0 (and_both _ _ a7.0 (and_both _ _ a8.0 refl))))))) in
      record { first = omega arith; last = omega arith; all = or-zeros (c0 ∷ c1 ∷ c2 ∷ c4 ∷ c5 ∷ c6 ∷ c7 ∷ c8 ∷ []) (joined w v) digits (omega arith) }

-- a text of eleven, spelled
eleven : (s : List ℕ) → length s ≡ 11 → spelled 11 0 0 s ≡ s
eleven s n = sym (take-spelled 11 0 0 s (omega arith)) ∙ take_all 11 s (omega arith)

pub serial-around : (s : List ℕ) (w v : ℕ) → fits (pattern serial_form) s ≡ true → w ≡ lanes (window 0 s) → v ≡ lanes (window 3 s) → Around w v (take 8 (around s))
unfolding spelled pattern
serial-around s w v h e f =
    let all = eleven s (fits-long (pattern serial_form) s h) in
    rw (e, f)
    (subst (λ (l : List ℕ). Around (lanes (window 0 l)) (lanes (window 3 l)) (take 8 (around l))) all
    (of-eleven _ _ _ _ _ _ _ _ _ _ _ (ap (fits (pattern serial_form)) all ∙ h)))

pub serial-long : (s : List ℕ) → fits (pattern serial_form) s ≡ true → length s ≡ 11
unfolding pattern
serial-long s h = fits-long (pattern serial_form) s h

pub serial-first : (s : List ℕ) (w : ℕ) → fits (pattern serial_form) s ≡ true → w ≡ lanes (window 0 s) → 0x3030303020303030 ≤ w
serial-first s w h e = (serial-around s w _ h e refl).first

-- the eight taken apart again, and the last two
pub serial-apart : (s d : List ℕ) (w : ℕ) → length s ≡ 11 → every is_byte s ≡ true → w ≡ lanes (take 8 (around s)) → d ≡ unlaned 8 w
    → (get_or d 0 0 ∷ get_or d 1 0 ∷ get_or d 2 0 ∷ get_or d 3 0 ∷ get_or d 4 0 ∷ get_or d 5 0 ∷ get_or d 6 0 ∷ get_or d 7 0 ∷ get_or s 9 0 ∷ get_or s 10 0 ∷ []) ≡ around s
unfolding spelled
serial-apart s d w n bytes e f =
    let all = eleven s n in
    let long : length (take 8 (around s)) ≡ 8 = subst (λ (l : List ℕ). length (take 8 (around l)) ≡ 8) all refl in
    let ok : every is_byte (take 8 (around s)) ≡ true = every_take is_byte 8 (around s) (every_append is_byte (take 3 s) (drop 4 s) (every_take is_byte 3 s bytes) (every_drop is_byte 4 s bytes)) in
    let own : d ≡ take 8 (around s) = f ∙ ap (unlaned 8) e ∙ (rw long at (unlaned-lanes (take 8 (around s)) ok)) in
    rw own
    (subst (λ (l : List ℕ). let b = take 8 (around l) in (get_or b 0 0 ∷ get_or b 1 0 ∷ get_or b 2 0 ∷ get_or b 3 0 ∷ get_or b 4 0 ∷ get_or b 5 0 ∷ get_or b 6 0 ∷ get_or b 7 0 ∷ get_or l 9 0 ∷ get_or l 10 0 ∷ []) ≡ around l) all refl)
