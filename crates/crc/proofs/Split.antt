-- The register is the bare one, with ODD in it where an odd number of ones fell out; and that shows in the count of ones. Assumes nothing.
use mathlib.Core.Path.{◌≡◌, refl, sym, ap, ap₂, ◌∙◌}
use mathlib.Core.Bool.{not, cond}
use mathlib.Core.List.{List, [], ◌∷◌}
use Prim.Native.Nat.{ℕ, zero, suc, ◌+◌, ◌*◌, ◌/◌, ◌%◌, ◌<◌}
use native.Mathlib.Nat.{mod-lt, zero-lt-suc, div-add-mod'}
use native.Mathlib.Omega.{arith}
use lib.Count.{ones, ones_cat}
use lib.Dec.{eqb}
use lib.Bits.{bit_xor, xor_comm, xor_lt, xor_zero_r}
use borrow.Author.Tests.{eqb-true}
use Rattle.line.specs.Characters.{damaged_at}
use Rattle.line.proofs.Xor.{xor_assoc}
use Rattle.line.proofs.Runs.{below_all}
use Rattle.crc.specs.Crc.{bit_out, out, joined, crc_from, POLYNOMIAL, crc_of}
use Rattle.crc.specs.Splitting.{BARE, ODD, evened}
use Rattle.crc.proofs.Linear.{bit-xor, digit-times}
use Rattle.crc.proofs.Counting.{ones-xor, ones_odd, ones-crc, sum_of}

-- a register with its parity beside it
pub record Splits (whole bare : ℕ) : Type 0 where
  pub odd : ℕ
  pub digit : odd < 2
  pub is : whole ≡ bit_xor bare (odd * ODD)

-- what comes in is what the bare register takes, and ODD
comes : (x : ℕ) → x < 2 → x * POLYNOMIAL ≡ bit_xor (x * BARE) (x * ODD)
comes zero h = refl
comes (suc zero) h = refl
comes (suc (suc x)) h = absurd (omega arith)

-- ODD goes on as it is
stays : (x : ℕ) → x < 2 → bit_out POLYNOMIAL (x * ODD) ≡ x * ODD
unfolding bit_out
stays zero h = refl
stays (suc zero) h = refl
stays (suc (suc x)) h = absurd (omega arith)

split-bit : (w s : ℕ) → Splits w s → Splits (bit_out POLYNOMIAL w) (bit_out BARE s)
unfolding bit_out
split-bit w s h =
    let e = h.odd in
    let d : s % 2 < 2 = mod-lt s (zero-lt-suc 1) in
    let own : bit_out POLYNOMIAL s ≡ bit_xor (bit_out BARE s) (s % 2 * ODD) =
    ap (bit_xor (s / 2)) (comes (s % 2) d) ∙ sym (xor_assoc (s / 2) (s % 2 * BARE) (s % 2 * ODD)) in
    record {
      odd = bit_xor (s % 2) e;
      digit = xor_lt 1 (s % 2) e d h.digit;
      is =
          ap (bit_out POLYNOMIAL) h.is
          ∙ bit-xor POLYNOMIAL s (e * ODD)
          ∙ ap₂ bit_xor own (stays e h.digit)
          ∙ xor_assoc (bit_out BARE s) (s % 2 * ODD) (e * ODD)
          ∙ ap (bit_xor (bit_out BARE s)) (sym (digit-times (s % 2) e ODD d h.digit));
    }

split-out : (n w s : ℕ) → Splits w s → Splits (out POLYNOMIAL n w) (out BARE n s)
unfolding out
split-out zero w s h = h
split-out (suc n) w s h = split-out n (bit_out POLYNOMIAL w) (bit_out BARE s) (split-bit w s h)

-- a byte is joined to both
split-byte : (w s b : ℕ) → Splits w s → Splits (bit_xor w b) (bit_xor s b)
split-byte w s b h =
    record {
      odd = h.odd;
      digit = h.digit;
      is =
          ap (λ (n : ℕ). bit_xor n b) h.is
          ∙ xor_assoc s (h.odd * ODD) b
          ∙ ap (bit_xor s) (xor_comm (h.odd * ODD) b)
          ∙ sym (xor_assoc s b (h.odd * ODD));
    }

split-all : (w s : ℕ) (m : List ℕ) → Splits w s → Splits (crc_from POLYNOMIAL w m) (crc_from BARE s m)
unfolding crc_from joined
split-all w s [] h = h
split-all w s (b ∷ m) h =
    split-all (joined POLYNOMIAL w b) (joined BARE s b) m (split-out 8 (bit_xor w b) (bit_xor s b) (split-byte w s b h))

-- the bit that was left out is told by the count of ones of the bare register and of the sum
parted : (m : List ℕ) → crc_of m ≡ bit_xor (crc_from BARE 0xFFFF m) ((ones (crc_from BARE 0xFFFF m) + ones (sum_of m)) % 2 * ODD)
unfolding crc_of ones
parted m =
    let r = crc_from BARE 0xFFFF m in
    let h = split-all 0xFFFF 0xFFFF m (record { odd = 0; digit = zero-lt-suc 1; is = refl }) in
    let counted : ones (crc_from POLYNOMIAL 0xFFFF m) % 2 ≡ (ones 0xFFFF + ones (sum_of m)) % 2 = ones-crc 0xFFFF m in
    let sixteen : ones 0xFFFF ≡ 16 = refl in
    let split : ones (crc_from POLYNOMIAL 0xFFFF m) % 2 ≡ (ones r + ones (h.odd * ODD)) % 2 = ap (λ (n : ℕ). ones n % 2) h.is ∙ ones-xor r (h.odd * ODD) in
    let odd : h.odd ≡ (ones r + ones (sum_of m)) % 2 = omega (arith, counted, sixteen, split, ones_odd h.odd h.digit, h.digit) in
    h.is ∙ ap (λ (n : ℕ). bit_xor r (n * ODD)) odd

-- the count over two bytes and the sum is that over the register and the sum
joined-count : (c x : ℕ) → ones (bit_xor (bit_xor x (c % 256)) (c / 256)) % 2 ≡ (ones c + ones x) % 2
joined-count c x =
    let whole : ones c ≡ ones (c / 256) + ones (c % 256) = ap ones (sym (div-add-mod' c 256)) ∙ ones_cat 8 (c / 256) (c % 256) (mod-lt c (zero-lt-suc 255)) in
    omega (arith, whole, ones-xor (bit_xor x (c % 256)) (c / 256), ones-xor x (c % 256))

chosen-odd : (c n : ℕ) → cond (not (eqb (n % 2) 0)) (bit_xor c ODD) c ≡ bit_xor c (n % 2 * ODD)
chosen-odd c n = by (n % 2) (mod-lt n (zero-lt-suc 1))
  where
    by : (k : ℕ) → k < 2 → cond (not (eqb k 0)) (bit_xor c ODD) c ≡ bit_xor c (k * ODD)
    by zero h = sym (xor_zero_r c)
    by (suc zero) h = refl
    by (suc (suc k)) h = absurd (omega arith)

-- the CRC, by the bare register and the sum of all bytes
pub evened-is : (m : List ℕ) → evened (crc_from BARE 0xFFFF m) (sum_of m) ≡ crc_of m
unfolding evened damaged_at
evened-is m =
    let r = crc_from BARE 0xFFFF m in
    ap (λ (n : ℕ). cond (not (eqb n 0)) (bit_xor r ODD) r) (joined-count r (sum_of m))
    ∙ chosen-odd r (ones r + ones (sum_of m))
    ∙ sym (parted m)

-- what eight bits leave of a byte in the bare register: one test that is computed of all 256
pub bare-byte : (t : ℕ) → t < 256 → out BARE 8 t ≡ bit_xor t (t * 2) * 64
unfolding out bit_out
bare-byte t h = eqb-true _ _ (below_all 256 (λ (n : ℕ). eqb (out BARE 8 n) (bit_xor n (n * 2) * 64)) refl t h)

pub spread-lt : (t : ℕ) → t < 256 → bit_xor t (t * 2) * 64 < 65536
spread-lt t h = let x : bit_xor t (t * 2) < 512 = xor_lt 9 t (t * 2) (omega arith) (omega arith) in omega arith
