-- Whatever polynomial comes in: bits go out of an exclusive-or as they go out of its two sides, and what stands above the bits that go out
-- just comes down. So what eight bits do to a register is done by its two bytes, each by itself. Assumes nothing.
use mathlib.Core.Path.{◌≡◌, refl, sym, ap, ap₂, ◌∙◌}
use mathlib.Core.List.{List, [], ◌∷◌, ◌++◌}
use Prim.Native.Nat.{ℕ, zero, suc, ◌*◌, ◌/◌, ◌%◌, ◌^◌, ◌<◌}
use native.Mathlib.Nat.{mod-lt, zero-lt-suc, div-add-mod', pow-suc, zero-mul, mul-one, mul_assoc}
use native.Mathlib.Omega.{arith}
use lib.Bits.{bit_xor, xor_shr, xor_mod, xor_self, xor_zero_r, xor_comm, xor_shifted}
use Rattle.line.proofs.Xor.{xor_assoc}
use Rattle.crc.specs.Crc.{bit_out, out, joined, crc_from}

-- two pairs joined crosswise
swap : (a b c d : ℕ) → bit_xor (bit_xor a b) (bit_xor c d) ≡ bit_xor (bit_xor a c) (bit_xor b d)
swap a b c d =
    xor_assoc a b (bit_xor c d)
    ∙ ap (bit_xor a) (sym (xor_assoc b c d) ∙ ap (λ (n : ℕ). bit_xor n d) (xor_comm b c) ∙ xor_assoc c b d)
    ∙ sym (xor_assoc a c (bit_xor b d))

-- a number taken for each of two digits that are joined
pub digit-times : (x y p : ℕ) → x < 2 → y < 2 → bit_xor x y * p ≡ bit_xor (x * p) (y * p)
digit-times zero y p hx hy = sym (ap (λ (n : ℕ). bit_xor n (y * p)) (zero-mul p))
digit-times (suc zero) zero p hx hy = sym (ap (bit_xor (1 * p)) (zero-mul p) ∙ xor_zero_r (1 * p))
digit-times (suc zero) (suc zero) p hx hy = zero-mul p ∙ sym (xor_self (1 * p))
digit-times (suc zero) (suc (suc y)) p hx hy = absurd (omega arith)
digit-times (suc (suc x)) y p hx hy = absurd (omega arith)

module _ (p : ℕ) where
  pub bit-xor : (a b : ℕ) → bit_out p (bit_xor a b) ≡ bit_xor (bit_out p a) (bit_out p b)
  unfolding bit_out
  bit-xor a b =
      ap₂ bit_xor (xor_shr a b 1)
      (ap (λ (n : ℕ). n * p) (xor_mod a b 1) ∙ digit-times (a % 2) (b % 2) p (mod-lt a (zero-lt-suc 1)) (mod-lt b (zero-lt-suc 1)))
      ∙ swap (a / 2) (b / 2) (a % 2 * p) (b % 2 * p)

  pub out-xor : (n a b : ℕ) → out p n (bit_xor a b) ≡ bit_xor (out p n a) (out p n b)
  unfolding out
  out-xor zero a b = refl
  out-xor (suc n) a b = ap (out p n) (bit-xor a b) ∙ out-xor n (bit_out p a) (bit_out p b)

  -- no one falls out of an even register
  even-out : (h : ℕ) → bit_out p (h * 2) ≡ h
  unfolding bit_out
  even-out h =
      let d : h * 2 / 2 ≡ h = omega arith in
      let m : h * 2 % 2 ≡ 0 = omega arith in
      rw (d, m) (ap (bit_xor h) (zero-mul p) ∙ xor_zero_r h)

  pub out-high : (n h : ℕ) → out p n (h * 2 ^ n) ≡ h
  unfolding out
  out-high zero h = mul-one h
  out-high (suc n) h =
      ap (λ (k : ℕ). out p n (bit_out p k)) (ap (λ (k : ℕ). h * k) (pow-suc 2 n) ∙ sym (mul_assoc h (2 ^ n) 2))
      ∙ ap (out p n) (even-out (h * 2 ^ n)) ∙ out-high n h

  -- eight bits of a register, by its two bytes
  pub out-bytes : (x : ℕ) → out p 8 x ≡ bit_xor (x / 256) (out p 8 (x % 256))
  out-bytes x =
      ap (out p 8) (sym (div-add-mod' x 256) ∙ sym (xor_shifted (x / 256) 8 (x % 256) (mod-lt x (zero-lt-suc 255))))
      ∙ out-xor 8 (x / 256 * 256) (x % 256)
      ∙ ap (λ (n : ℕ). bit_xor n (out p 8 (x % 256))) (out-high 8 (x / 256))

  -- a byte joined to a register
  pub joined_bytes : (c b : ℕ) → b < 256 → joined p c b ≡ bit_xor (c / 256) (out p 8 (bit_xor c b % 256))
  unfolding joined
  joined_bytes c b h =
      let high : b / 256 ≡ 0 = omega arith in
      out-bytes (bit_xor c b)
      ∙ ap (λ (n : ℕ). bit_xor n (out p 8 (bit_xor c b % 256))) (xor_shr c b 8 ∙ ap (bit_xor (c / 256)) high ∙ xor_zero_r (c / 256))

  pub crc-append : (c : ℕ) (s t : List ℕ) → crc_from p c (s ++ t) ≡ crc_from p (crc_from p c s) t
  unfolding crc_from
  crc-append c [] t = refl
  crc-append c (b ∷ s) t = crc-append (joined p c b) s t
