-- The exclusive-or law, proved once for any length: over joined pieces, of a block with its own BCC, and its bound.
-- Assumes nothing.
use mathlib.Core.Path.{◌≡◌, refl, sym, ap, ap₂, ◌∙◌}
use mathlib.Core.List.{List, [], ◌∷◌, ◌++◌, map}
use Prim.Native.Nat.{ℕ, zero, suc, ◌+◌, ◌*◌, ◌/◌, ◌%◌, ◌<◌, ◌≤◌}
use native.Mathlib.Nat.{mod-lt, zero-lt-suc, mod-eq_of_lt}
use native.Mathlib.Omega.{arith}
use lib.Arith.{bin_ind}
use lib.Dec.{lit<}
use lib.ListN.{length, get_or, drop, drop_of_length-le}
use lib.Bits.{bit_xor, differ, xor_step, xor_shr, xor_mod, xor_lt, xor_self, xor_zero_r}
use Rattle.line.specs.Characters.{seven, sent}
use Rattle.line.specs.Checksum.{bcc_of}
use Rattle.line.proofs.Parity.{seven-sent, seven-seven}
use Rattle.line.proofs.Runs.{left-next}

digit_assoc : (x y z : ℕ) → x < 2 → y < 2 → z < 2 → differ (differ x y) z ≡ differ x (differ y z)
digit_assoc zero y z hx hy hz = refl
digit_assoc (suc zero) zero z hx hy hz = refl
digit_assoc (suc zero) (suc zero) zero hx hy hz = refl
digit_assoc (suc zero) (suc zero) (suc zero) hx hy hz = refl
digit_assoc (suc zero) (suc zero) (suc (suc z)) hx hy hz = absurd (omega arith)
digit_assoc (suc zero) (suc (suc y)) z hx hy hz = absurd (omega arith)
digit_assoc (suc (suc x)) y z hx hy hz = absurd (omega arith)

-- the lowest digit of an exclusive-or
xor_low : (a b : ℕ) → bit_xor a b % 2 ≡ differ (a % 2) (b % 2)
xor_low a b = xor_mod a b 1 ∙ one (a % 2) (b % 2) (mod-lt a (zero-lt-suc 1)) (mod-lt b (zero-lt-suc 1))
  where
    one : (x y : ℕ) → x < 2 → y < 2 → bit_xor x y ≡ differ x y
    one zero y hx hy = refl
    one (suc zero) zero hx hy = refl
    one (suc zero) (suc zero) hx hy = refl
    one (suc zero) (suc (suc y)) hx hy = absurd (omega arith)
    one (suc (suc x)) y hx hy = absurd (omega arith)

pub xor_assoc : (a b c : ℕ) → bit_xor (bit_xor a b) c ≡ bit_xor a (bit_xor b c)
xor_assoc a =
    bin_ind (λ (n : ℕ). (b c : ℕ) → bit_xor (bit_xor n b) c ≡ bit_xor n (bit_xor b c)) (λ b c. refl)
    (λ n ih b c.
    xor_step (bit_xor n b) c
    ∙ ap₂ (λ (x y : ℕ). bit_xor x (c / 2) * 2 + differ y (c % 2)) (xor_shr n b 1) (xor_low n b)
    ∙ ap₂ (λ (x y : ℕ). x * 2 + y) (ih (b / 2) (c / 2))
    (digit_assoc (n % 2) (b % 2) (c % 2) (mod-lt n (zero-lt-suc 1)) (mod-lt b (zero-lt-suc 1)) (mod-lt c (zero-lt-suc 1)))
    ∙ sym (ap₂ (λ (x y : ℕ). bit_xor (n / 2) x * 2 + differ (n % 2) y) (xor_shr b c 1) (xor_low b c))
    ∙ sym (xor_step n (bit_xor b c))) a

-- the seven bits of an exclusive-or
pub seven-xor : (a b : ℕ) → seven (bit_xor a b) ≡ bit_xor (seven a) (seven b)
unfolding seven
seven-xor a b = xor_mod a b 7

pub bcc-lt : (s : List ℕ) → bcc_of s < 128
unfolding bcc_of seven
bcc-lt [] = lit< tt
bcc-lt (b ∷ s) = xor_lt 7 (b % 128) (bcc_of s) (mod-lt b (zero-lt-suc 127)) (bcc-lt s)

-- over joined pieces
pub bcc-append : (s t : List ℕ) → bcc_of (s ++ t) ≡ bit_xor (bcc_of s) (bcc_of t)
unfolding bcc_of
bcc-append [] t = refl
bcc-append (b ∷ s) t = ap (bit_xor (seven b)) (bcc-append s t) ∙ sym (xor_assoc (seven b) (bcc_of s) (bcc_of t))

-- one character more
pub bcc-last : (s : List ℕ) (c : ℕ) → bcc_of (s ++ (c ∷ [])) ≡ bit_xor (bcc_of s) (seven c)
unfolding bcc_of
bcc-last s c = bcc-append s (c ∷ []) ∙ ap (bit_xor (bcc_of s)) (xor_zero_r (seven c))

-- a block followed by its own BCC sums to zero
pub bcc-own : (s : List ℕ) → bcc_of (s ++ (bcc_of s ∷ [])) ≡ 0
unfolding bcc_of seven
bcc-own s =
    bcc-append s (bcc_of s ∷ [])
    ∙ ap (bit_xor (bcc_of s)) (xor_zero_r (bcc_of s % 128) ∙ mod-eq_of_lt (bcc-lt s))
    ∙ xor_self (bcc_of s)

-- the parity bit does not count
pub bcc-sent : (s : List ℕ) → bcc_of (map sent s) ≡ bcc_of (map seven s)
unfolding bcc_of
bcc-sent [] = refl
bcc-sent (b ∷ s) = ap₂ bit_xor (seven-sent b ∙ sym (seven-seven b)) (bcc-sent s)

-- a sum of whole bytes so far, with the BCC of what is left, is the BCC of the whole; before the first byte it is nothing
pub bcc-start : (s : List ℕ) → bit_xor (seven 0) (bcc_of s) ≡ bcc_of s
unfolding seven
bcc-start s = refl

module _ (s : List ℕ) (i sum whole : ℕ) where
  pub bcc-turn : i < length s → bit_xor (seven sum) (bcc_of (drop i s)) ≡ whole → bit_xor (seven (bit_xor sum (get_or s i 0))) (bcc_of (drop (i + 1) s)) ≡ whole
  unfolding bcc_of
  bcc-turn h e =
      rw (seven-xor sum (get_or s i 0), xor_assoc (seven sum) (seven (get_or s i 0)) (bcc_of (drop (i + 1) s))) (rw (left-next i s h) at e)

  pub bcc-end : length s ≤ i → bit_xor (seven sum) (bcc_of (drop i s)) ≡ whole → seven sum ≡ whole
  unfolding bcc_of
  bcc-end h e = sym (xor_zero_r (seven sum)) ∙ (rw (drop_of_length-le s h) at e)
