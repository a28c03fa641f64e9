-- A message followed by its CRC, low byte first, checks, at any length; and so the CRC over both is 0. Assumes nothing.
use mathlib.Core.Path.{◌≡◌, sym, ap, ap₂, ◌∙◌}
use mathlib.Core.Bool.{true}
use mathlib.Core.List.{List, [], ◌∷◌, ◌++◌}
use Prim.Native.Nat.{ℕ, zero, suc, ◌+◌, ◌-◌, ◌*◌, ◌/◌, ◌%◌, ◌<◌, ◌≤◌}
use native.Mathlib.Nat.{mod-lt, zero-lt-suc, div-add-mod', le_of_suc-le-suc}
use native.Mathlib.Omega.{arith}
use lib.Bits.{bit_xor, xor_self, xor_zero_r, xor_shifted}
use lib.Dec.{eqb, leb}
use lib.ListN.{length, get_or, take, drop, length-append, take-append-drop, drop_of_length-le}
use lib.Seq.{take-append_seam, get_or-append_seam, get_or-append-add}
use borrow.Author.Tests.{eq-eqb, eqb-true, le-leb, leb-true, ltb-true}
use Rattle.line.specs.Runs.{every}
use Rattle.line.proofs.Runs.{and_both, and_left, and_right, left-next}
use Rattle.line.proofs.Xor.{xor_assoc}
use Rattle.crc.specs.Crc.{out, joined, crc_from, POLYNOMIAL, crc_of, with_crc, checks, is_byte}
use Rattle.crc.proofs.Linear.{out-high, crc-append}

-- the two bytes of a register, joined to it one after the other, leave nothing
own-bytes : (p c : ℕ) → joined p (joined p c (c % 256)) (c / 256) ≡ 0
unfolding joined
own-bytes p c =
    let halves : c ≡ bit_xor (c / 256 * 256) (c % 256) = sym (div-add-mod' c 256) ∙ sym (xor_shifted (c / 256) 8 (c % 256) (mod-lt c (zero-lt-suc 255))) in
    let high : bit_xor c (c % 256) ≡ c / 256 * 256 = ap (λ (n : ℕ). bit_xor n (c % 256)) halves ∙ xor_assoc (c / 256 * 256) (c % 256) (c % 256) ∙ ap (bit_xor (c / 256 * 256)) (xor_self (c % 256)) ∙ xor_zero_r (c / 256 * 256) in
    ap (λ (n : ℕ). joined p (out p 8 n) (c / 256)) high ∙ ap (λ (n : ℕ). joined p n (c / 256)) (out-high p 8 (c / 256)) ∙ ap (out p 8) (xor_self (c / 256)) ∙ out-high p 8 0

-- the CRC over a message and its own CRC is 0
pub crc-own : (s : List ℕ) → crc_of (with_crc s) ≡ 0
unfolding crc_of with_crc crc_from
crc-own s = crc-append POLYNOMIAL 0xFFFF s (crc_of s % 256 ∷ crc_of s / 256 ∷ []) ∙ own-bytes POLYNOMIAL (crc_of s)

-- a message with its CRC checks
pub own-checks : (s : List ℕ) → checks (with_crc s) ≡ true
unfolding checks with_crc
own-checks s =
    let c = crc_of s in
    let low_first : c % 256 + c / 256 * 256 ≡ c = omega arith in
    let both = c % 256 ∷ c / 256 ∷ [] in
    let n : length (s ++ both) ≡ length s + 2 = length-append s both in
    let two : length (s ++ both) - 2 ≡ length s = omega arith in
    let one : length (s ++ both) - 1 ≡ length s + 1 = omega arith in
    and_both (leb 2 (length (s ++ both))) _ (le-leb 2 (length (s ++ both)) (omega arith))
    (eq-eqb _ _
    (ap₂ (λ (i j : ℕ). get_or (s ++ both) i 0 + get_or (s ++ both) j 0 * 256) two one
    ∙ ap₂ (λ (x y : ℕ). x + y * 256) (get_or-append_seam s (c % 256) (c / 256 ∷ []) 0) (get_or-append-add s both 1 0)
    ∙ low_first
    ∙ ap crc_of (sym (ap (λ (k : ℕ). take k (s ++ both)) two ∙ take-append_seam s both))))

-- a byte at its place in a list of bytes
pub byte_at : (s : List ℕ) → every is_byte s ≡ true → (i : ℕ) → i < length s → get_or s i 0 < 256
unfolding every
byte_at [] e i h = absurd (omega arith)
byte_at (b ∷ s) e zero h = ltb-true b 256 (and_left (is_byte b) (every is_byte s) e)
byte_at (b ∷ s) e (suc i) h = byte_at s (and_right (is_byte b) (every is_byte s) e) i (le_of_suc-le-suc h)

-- a message that checks is what stands before its last two bytes, with its CRC
pub checks-is : (s : List ℕ) → every is_byte s ≡ true → checks s ≡ true → s ≡ with_crc (take (length s - 2) s)
unfolding checks with_crc
checks-is s bytes e =
    let k = length s - 2 in
    let l = get_or s k 0 in
    let h = get_or s (length s - 1) 0 in
    let c = crc_of (take k s) in
    let two : 2 ≤ length s = leb-true 2 (length s) (and_left (leb 2 (length s)) (eqb (l + h * 256) c) e) in
    let same : l + h * 256 ≡ c = eqb-true (l + h * 256) c (and_right (leb 2 (length s)) (eqb (l + h * 256) c) e) in
    let low : l < 256 = byte_at s bytes k (omega arith) in
    let next : k + 1 ≡ length s - 1 = omega arith in
    let over : length s ≤ k + 1 + 1 = omega arith in
    let ends : drop (k + 1 + 1) s ≡ [] = drop_of_length-le s over in
    let last : drop k s ≡ l ∷ h ∷ [] =
    left-next k s (omega arith)
    ∙ ap (λ (t : List ℕ). l ∷ t) (left-next (k + 1) s (omega arith) ∙ ap₂ (λ (x : ℕ) (t : List ℕ). x ∷ t) (ap (λ (i : ℕ). get_or s i 0) next) ends) in
    let l-is : l ≡ c % 256 = omega arith in
    let h-is : h ≡ c / 256 = omega arith in
    sym (take-append-drop k s) ∙ ap (λ (t : List ℕ). take k s ++ t) (last ∙ ap₂ (λ (x y : ℕ). x ∷ y ∷ []) l-is h-is)
