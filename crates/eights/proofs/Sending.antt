-- Eight characters sent at once: parity on all lanes, the lanes taken apart, and their BCC by halves. Assumes nothing.
use Rattle.std.proofs.Common.{◌≡◌, ℕ, suc, ◌+◌, ◌*◌, ◌/◌, ◌%◌, ◌^◌, ◌<◌, ◌≤◌, true, ltb, List, [], ◌∷◌, ◌++◌, map, length, take, drop, replicate, sym, refl, ap, ◌∙◌, ap₂, mul_assoc, mul_comm, pow-suc, arith, lit<, length-drop, take-append-drop, length-take-le, ltb-true, lt-ltb}
use native.Mathlib.Nat.{div-div-eq-div-mul}
use lib.Bits.{bit_and, bit_xor, and_block, and_mask, and_le_l, xor_block, xor_shr, xor_mod, xor_lt, xor_comm, xor_zero_r}
use lib.Count.{ones}
use lib.Arith.{digits_mod, digits_div}
use lib.ListN.{length-map}
use Rattle.line.specs.Runs.{every}
use Rattle.line.specs.Characters.{seven, sent}
use Rattle.line.specs.Balance.{folded}
use Rattle.line.specs.Checksum.{bcc_of}
use Rattle.line.proofs.Runs.{and_left, and_right, and_both, every_take, every_drop}
use Rattle.line.proofs.Evening.{folded-counts}
use Rattle.line.proofs.Parity.{sent-lt}
use Rattle.line.proofs.Xor.{xor_assoc, seven-xor, bcc-append}
use Rattle.eights.specs.Lanes.{lanes, is_byte, unlaned, evened}
use Rattle.eights.proofs.Windows.{window}

-- ---- lanes taken apart

pub unlaned-lanes : (s : List ℕ) → every is_byte s ≡ true → unlaned (length s) (lanes s) ≡ s
unfolding unlaned lanes every is_byte
unlaned-lanes [] h = refl
unlaned-lanes (c ∷ s) h =
    let own : c < 256 = ltb-true c 256 (and_left (ltb c 256) (every is_byte s) h) in
    let low : (lanes s * 256 + c) % 256 ≡ c = omega arith in
    let high : (lanes s * 256 + c) / 256 ≡ lanes s = omega arith in
    rw (low, high) (ap (λ (l : List ℕ). c ∷ l) (unlaned-lanes s (and_right (ltb c 256) (every is_byte s) h)))

-- ---- parity

-- what is above the lowest lane is folded by itself
step-above : (d n : ℕ) → bit_xor n (n / d) / 256 ≡ bit_xor (n / 256) (n / 256 / d)
step-above d n = xor_shr n (n / d) 8 ∙ ap (bit_xor (n / 256)) (div-div-eq-div-mul n d 256 ∙ ap (λ (k : ℕ). n / k) (mul_comm d 256) ∙ sym (div-div-eq-div-mul n 256 d))

folded-above : (n : ℕ) → folded n / 256 ≡ folded (n / 256)
folded-above n =
    let four = bit_xor n (n / 16) in
    let two = bit_xor four (four / 4) in
    step-above 2 two ∙ ap (λ (y : ℕ). bit_xor y (y / 2)) (step-above 4 four ∙ ap (λ (x : ℕ). bit_xor x (x / 4)) (step-above 16 n))

-- and the lowest bit is the lowest lane's
step-low : (k d a b : ℕ) → a % 2 ^ k ≡ b % 2 ^ k → a / d % 2 ^ k ≡ b / d % 2 ^ k → bit_xor a (a / d) % 2 ^ k ≡ bit_xor b (b / d) % 2 ^ k
step-low k d a b e f = xor_mod a (a / d) k ∙ ap₂ bit_xor e f ∙ sym (xor_mod b (b / d) k)

sixteen : (a b : ℕ) → a % 16 ≡ b % 16 → (a % 4 ≡ b % 4) × (a / 4 % 4 ≡ b / 4 % 4)
sixteen a b e = (omega arith, omega arith)

four-bits : (a b : ℕ) → a % 4 ≡ b % 4 → (a % 2 ≡ b % 2) × (a / 2 % 2 ≡ b / 2 % 2)
four-bits a b e = (omega arith, omega arith)

folded_low : (n c : ℕ) → c < 256 → folded (n * 256 + c) % 2 ≡ folded c % 2
folded_low n c h =
    let m = n * 256 + c in
    let p = step-low 4 16 m c (omega arith) (omega arith) in
    let s = sixteen _ _ p in
    let q = step-low 2 4 (bit_xor m (m / 16)) (bit_xor c (c / 16)) s.0 s.1 in
    let t = four-bits _ _ q in
    step-low 1 2 _ _ t.0 t.1

-- a bit of each lane
bit-lane : (x o : ℕ) → bit_and x (o * 256 + 1) ≡ bit_and (x / 256) o * 256 + x % 2
bit-lane x o =
    let split : x ≡ x / 256 * 256 + x % 256 = omega arith in
    let low : x % 256 < 256 = omega arith in
    let bit : x % 256 % 2 ≡ x % 2 = omega arith in
    ap (λ (n : ℕ). bit_and n (o * 256 + 1)) split
    ∙ and_block 8 (x / 256) o (x % 256) 1 low (lit< tt)
    ∙ ap (λ (b : ℕ). bit_and (x / 256) o * 256 + b) (and_mask (x % 256) 1 ∙ bit)

-- one character
sent-own : (c : ℕ) → folded (bit_and c 127) % 2 * 128 + bit_and c 127 ≡ sent c
unfolding sent seven
sent-own c =
    let d : bit_and c 127 ≡ c % 128 = and_mask c 7 in
    let k : folded (c % 128) % 2 ≡ ones (c % 128) % 2 = folded-counts (c % 128) (omega arith) in
    rw (d, k) (omega arith)

joined : (a m p d t k : ℕ) → a * 128 + m ≡ t → p * 128 + d ≡ k → (a * 256 + p) * 128 + (m * 256 + d) ≡ t * 256 + k
joined a m p d t k e f = omega arith

sent-lanes : (s : List ℕ) → every is_byte s ≡ true
    → bit_and (folded (bit_and (lanes s) (lanes (replicate (length s) 127)))) (lanes (replicate (length s) 1)) * 128 + bit_and (lanes s) (lanes (replicate (length s) 127)) ≡ lanes (map sent s)
unfolding lanes every is_byte
sent-lanes [] h = refl
sent-lanes (c ∷ s) h =
    let own : c < 256 = ltb-true c 256 (and_left (ltb c 256) (every is_byte s) h) in
    let o = lanes (replicate (length s) 1) in
    let m = bit_and (lanes s) (lanes (replicate (length s) 127)) in
    let d = bit_and c 127 in
    let small : d < 256 = omega (arith, and_le_l c 127) in
    let cut : bit_and (lanes s * 256 + c) (lanes (replicate (length s) 127) * 256 + 127) ≡ m * 256 + d = and_block 8 (lanes s) (lanes (replicate (length s) 127)) c 127 own (lit< tt) in
    let up : (m * 256 + d) / 256 ≡ m = omega arith in
    let bits : bit_and (folded (m * 256 + d)) (o * 256 + 1) ≡ bit_and (folded m) o * 256 + folded d % 2 = bit-lane (folded (m * 256 + d)) o ∙ ap₂ (λ (x y : ℕ). bit_and x o * 256 + y) (folded-above (m * 256 + d) ∙ ap (λ (n : ℕ). folded n) up) (folded_low m d small) in
    ap (λ (n : ℕ). bit_and (folded n) (o * 256 + 1) * 128 + n) cut
    ∙ ap (λ (n : ℕ). n * 128 + (m * 256 + d)) bits
    ∙ joined (bit_and (folded m) o) m (folded d % 2) d _ _ (sent-lanes s (and_right (ltb c 256) (every is_byte s) h)) (sent-own c)

sent-bytes : (s : List ℕ) → every is_byte (map sent s) ≡ true
unfolding every is_byte
sent-bytes [] = refl
sent-bytes (c ∷ s) = and_both _ _ (lt-ltb (sent c) 256 (sent-lt c)) (sent-bytes s)

-- eight of them, and their lanes taken apart again
eight-sent : (s : List ℕ) (w : ℕ) → length s ≡ 8 → every is_byte s ≡ true → w ≡ lanes s → unlaned 8 (evened (bit_and w 0x7F7F7F7F7F7F7F7F)) ≡ map sent s
unfolding evened lanes
eight-sent s w n bytes e =
    let whole : evened (bit_and (lanes s) 0x7F7F7F7F7F7F7F7F) ≡ lanes (map sent s) = rw n at (sent-lanes s bytes) in
    let long : length (map sent s) ≡ 8 = length-map s sent ∙ n in
    rw (e, whole, ← long) (unlaned-lanes (map sent s) (sent-bytes s))

-- ---- the BCC

-- two runs of one length, one upon the other
unfoldable upon : List ℕ → List ℕ → List ℕ
upon [] t = []
upon (a ∷ s) [] = []
upon (a ∷ s) (b ∷ t) = bit_xor a b ∷ upon s t

upon-lanes : (s t : List ℕ) → length s ≡ length t → every is_byte s ≡ true → every is_byte t ≡ true → bit_xor (lanes s) (lanes t) ≡ lanes (upon s t)
unfolding upon lanes every is_byte
upon-lanes [] [] n h k = refl
upon-lanes [] (b ∷ t) n h k = absurd (omega arith)
upon-lanes (a ∷ s) [] n h k = absurd (omega arith)
upon-lanes (a ∷ s) (b ∷ t) n h k =
    xor_block 8 (lanes s) (lanes t) a b (ltb-true a 256 (and_left (ltb a 256) (every is_byte s) h)) (ltb-true b 256 (and_left (ltb b 256) (every is_byte t) k))
    ∙ ap (λ (m : ℕ). m * 256 + bit_xor a b) (upon-lanes s t (omega arith) (and_right (ltb a 256) (every is_byte s) h) (and_right (ltb b 256) (every is_byte t) k))

upon-bytes : (s t : List ℕ) → every is_byte s ≡ true → every is_byte t ≡ true → every is_byte (upon s t) ≡ true
unfolding upon every is_byte
upon-bytes [] t h k = refl
upon-bytes (a ∷ s) [] h k = refl
upon-bytes (a ∷ s) (b ∷ t) h k =
    and_both _ _ (lt-ltb (bit_xor a b) 256 (xor_lt 8 a b (ltb-true a 256 (and_left (ltb a 256) (every is_byte s) h)) (ltb-true b 256 (and_left (ltb b 256) (every is_byte t) k))))
    (upon-bytes s t (and_right (ltb a 256) (every is_byte s) h) (and_right (ltb b 256) (every is_byte t) k))

upon-long : (s t : List ℕ) → length s ≡ length t → length (upon s t) ≡ length s
unfolding upon
upon-long [] t n = refl
upon-long (a ∷ s) [] n = absurd (omega arith)
upon-long (a ∷ s) (b ∷ t) n = ap suc (upon-long s t (omega arith))

xor-swap : (a b c d : ℕ) → bit_xor (bit_xor a b) (bit_xor c d) ≡ bit_xor (bit_xor a c) (bit_xor b d)
xor-swap a b c d =
    xor_assoc a b (bit_xor c d)
    ∙ ap (bit_xor a) (sym (xor_assoc b c d) ∙ ap (λ (n : ℕ). bit_xor n d) (xor_comm b c) ∙ xor_assoc c b d)
    ∙ sym (xor_assoc a c (bit_xor b d))

upon-bcc : (s t : List ℕ) → length s ≡ length t → bcc_of (upon s t) ≡ bit_xor (bcc_of s) (bcc_of t)
unfolding upon bcc_of
upon-bcc [] [] n = refl
upon-bcc [] (b ∷ t) n = absurd (omega arith)
upon-bcc (a ∷ s) [] n = absurd (omega arith)
upon-bcc (a ∷ s) (b ∷ t) n = ap₂ bit_xor (seven-xor a b) (upon-bcc s t (omega arith)) ∙ xor-swap (seven a) (seven b) (bcc_of s) (bcc_of t)

lanes-append : (s t : List ℕ) → lanes (s ++ t) ≡ lanes t * 256 ^ length s + lanes s
unfolding lanes
lanes-append [] t = omega arith
lanes-append (a ∷ s) t =
    let up : lanes t * 256 ^ suc (length s) ≡ lanes t * 256 ^ length s * 256 = ap (λ (n : ℕ). lanes t * n) (pow-suc 256 (length s)) ∙ sym (mul_assoc (lanes t) (256 ^ length s) 256) in
    omega (arith, up, lanes-append s t)

lanes-below : (s : List ℕ) → every is_byte s ≡ true → lanes s < 256 ^ length s
unfolding lanes every is_byte
lanes-below [] h = lit< tt
lanes-below (a ∷ s) h =
    let own : a < 256 = ltb-true a 256 (and_left (ltb a 256) (every is_byte s) h) in
    let rest = lanes-below s (and_right (ltb a 256) (every is_byte s) h) in
    rw (pow-suc 256 (length s)) (omega arith)

-- a run's first half upon its second
abbrev halved : ℕ → List ℕ → List ℕ
halved k s = upon (take k s) (drop k s)

module _ (k : ℕ) (s : List ℕ) (n : length s ≡ k + k) (bytes : every is_byte s ≡ true) where
  first-long : length (take k s) ≡ k
  first-long = length-take-le k s (omega arith)

  same-long : length (take k s) ≡ length (drop k s)
  same-long = omega (arith, first-long, length-drop k s)

  halved-long : length (halved k s) ≡ k
  halved-long = upon-long (take k s) (drop k s) same-long ∙ first-long

  halved-bytes : every is_byte (halved k s) ≡ true
  halved-bytes = upon-bytes (take k s) (drop k s) (every_take is_byte k s bytes) (every_drop is_byte k s bytes)

  halved-bcc : bcc_of (halved k s) ≡ bcc_of s
  halved-bcc = upon-bcc (take k s) (drop k s) same-long ∙ sym (bcc-append (take k s) (drop k s)) ∙ ap bcc_of (take-append-drop k s)

  halved-lanes : (w m : ℕ) → m ≡ 256 ^ k → w ≡ lanes s → bit_xor (w % m) (w / m) ≡ lanes (halved k s)
  halved-lanes w m e f =
      let low : lanes (take k s) < 256 ^ k = rw first-long at (lanes-below (take k s) (every_take is_byte k s bytes)) in
      let whole : lanes s ≡ lanes (drop k s) * 256 ^ k + lanes (take k s) = ap lanes (sym (take-append-drop k s)) ∙ lanes-append (take k s) (drop k s) ∙ ap (λ (i : ℕ). lanes (drop k s) * 256 ^ i + lanes (take k s)) first-long in
      rw (f, e, whole, digits_mod (lanes (drop k s)) low, digits_div (lanes (drop k s)) low)
      (upon-lanes (take k s) (drop k s) same-long (every_take is_byte k s bytes) (every_drop is_byte k s bytes))

one_left : (s : List ℕ) (w : ℕ) → length s ≡ 1 → w ≡ lanes s → w % 128 ≡ bcc_of s
unfolding lanes bcc_of seven
one_left [] w n e = absurd (omega arith)
one_left (a ∷ b ∷ s) w n e = absurd (omega arith)
one_left (a ∷ []) w n e =
    let own : w ≡ a = omega arith in
    rw own (sym (xor_zero_r (a % 128)))

-- eight of them, halved three times
eight-bcc : (s : List ℕ) (w four two : ℕ) → length s ≡ 8 → every is_byte s ≡ true → w ≡ lanes s
    → four ≡ bit_xor (w % 0x100000000) (w / 0x100000000) → two ≡ bit_xor (four % 0x10000) (four / 0x10000)
    → bit_xor (two % 0x100) (two / 0x100) % 128 ≡ bcc_of s
eight-bcc s w four two n bytes e f g =
    let a = halved 4 s in
    let la : length a ≡ 4 = halved-long 4 s n bytes in
    let ba = halved-bytes 4 s n bytes in
    let b = halved 2 a in
    let lb : length b ≡ 2 = halved-long 2 a la ba in
    let bb = halved-bytes 2 a la ba in
    let ea : four ≡ lanes a = f ∙ halved-lanes 4 s n bytes w 0x100000000 refl e in
    let eb : two ≡ lanes b = g ∙ halved-lanes 2 a la ba four 0x10000 refl ea in
    one_left (halved 1 b) _ (halved-long 1 b lb bb) (halved-lanes 1 b lb bb two 0x100 refl eb)
    ∙ halved-bcc 1 b lb bb ∙ halved-bcc 2 a la ba ∙ halved-bcc 4 s n bytes

-- ---- from a place of a text on

window-long : (s : List ℕ) (at : ℕ) → at + 8 ≤ length s → length (window at s) ≡ 8
window-long s at r = length-take-le 8 (drop at s) (omega (arith, length-drop at s))

module _ (s : List ℕ) (at w : ℕ) (r : at + 8 ≤ length s) (e : w ≡ lanes (window at s)) (bytes : every is_byte s ≡ true) where
  own-bytes : every is_byte (window at s) ≡ true
  own-bytes = every_take is_byte 8 (drop at s) (every_drop is_byte at s bytes)

  pub window-sent : unlaned 8 (evened (bit_and w 0x7F7F7F7F7F7F7F7F)) ≡ map sent (window at s)
  window-sent = eight-sent (window at s) w (window-long s at r) own-bytes e

  pub window-bcc : (four two : ℕ) → four ≡ bit_xor (w % 0x100000000) (w / 0x100000000) → two ≡ bit_xor (four % 0x10000) (four / 0x10000)
      → bit_xor (two % 0x100) (two / 0x100) % 128 ≡ bcc_of (window at s)
  window-bcc four two f g = eight-bcc (window at s) w four two (window-long s at r) own-bytes e f g
