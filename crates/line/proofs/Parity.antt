-- What is sent comes back undamaged and the same, and an undamaged byte is determined by its seven bits.
-- The parity bit is the eighth binary digit, and the ones of a number are counted apart above and below it (`ones_cat`).
-- Assumes nothing.
use mathlib.Core.Path.{◌≡◌, refl, sym, ap, ◌∙◌}
use mathlib.Core.Bool.{false, not}
use Prim.Native.Nat.{ℕ, zero, suc, ◌+◌, ◌*◌, ◌/◌, ◌%◌, ◌<◌}
use native.Mathlib.Nat.{mod-lt, zero-lt-suc, div-add-mod'}
use native.Mathlib.Omega.{arith}
use borrow.Author.Tests.{eqb-true, eq-eqb, not-false}
use lib.Count.{ones, ones_cat}
use lib.Dec.{eqb}
use Rattle.line.specs.Characters.{damaged_at, seven, sent}

ones-digit : (q : ℕ) → q < 2 → ones q ≡ q
unfolding ones
ones-digit zero h = refl
ones-digit (suc zero) h = refl
ones-digit (suc (suc q)) h = absurd (omega arith)

-- the ones of a wire byte: its top bit, and those of its seven bits
ones-of-byte : (p s : ℕ) → p < 2 → s < 128 → ones (p * 128 + s) ≡ p + ones s
ones-of-byte p s hp hs = ones_cat 7 p s hs ∙ ap (λ (x : ℕ). x + ones s) (ones-digit p hp)

pub seven-lt : (b : ℕ) → seven b < 128
unfolding seven
seven-lt b = mod-lt b (zero-lt-suc 127)

pub seven-seven : (b : ℕ) → seven (seven b) ≡ seven b
unfolding seven
seven-seven b = omega arith

pub seven-small : (c : ℕ) → c < 128 → seven c ≡ c
unfolding seven
seven-small c h = omega arith

pub sent-lt : (c : ℕ) → sent c < 256
unfolding sent
sent-lt c = omega (arith, seven-lt c)

pub seven-sent : (c : ℕ) → seven (sent c) ≡ seven c
unfolding sent seven
seven-sent c = omega arith

-- what is sent comes back the same
pub sent-comes-back : (c : ℕ) → c < 128 → seven (sent c) ≡ c
sent-comes-back c h = seven-sent c ∙ seven-small c h

-- and undamaged
pub sent-undamaged : (c : ℕ) → damaged_at (sent c) ≡ false
unfolding damaged_at sent
sent-undamaged c = ap not (eq-eqb _ _ even)
  where
    even : ones (seven c + ones (seven c) % 2 * 128) % 2 ≡ 0
    even =
        let e : ones (ones (seven c) % 2 * 128 + seven c) ≡ ones (seven c) % 2 + ones (seven c) =
        ones-of-byte (ones (seven c) % 2) (seven c) (mod-lt (ones (seven c)) (zero-lt-suc 1)) (seven-lt c) in
        let f : ones (seven c + ones (seven c) % 2 * 128) ≡ ones (ones (seven c) % 2 * 128 + seven c) = ap ones (omega arith) in
        omega arith

-- an undamaged byte is what its seven bits are sent as
pub undamaged-is-sent : (b : ℕ) → b < 256 → damaged_at b ≡ false → sent (seven b) ≡ b
unfolding damaged_at sent seven
undamaged-is-sent b h d =
    let even : ones b % 2 ≡ 0 = eqb-true (ones b % 2) 0 (not-false (eqb (ones b % 2) 0) d) in
    let e : ones (b / 128 * 128 + b % 128) ≡ b / 128 + ones (b % 128) = ones-of-byte (b / 128) (b % 128) (omega arith) (mod-lt b (zero-lt-suc 127)) in
    let f : ones (b / 128 * 128 + b % 128) ≡ ones b = ap ones (div-add-mod' b 128) in
    let g : ones (b % 128 % 128) ≡ ones (b % 128) = ap ones (omega arith) in
    omega arith

-- an undamaged byte is determined by its seven bits
pub undamaged-determined : (a b : ℕ) → a < 256 → b < 256 → damaged_at a ≡ false → damaged_at b ≡ false → seven a ≡ seven b → a ≡ b
undamaged-determined a b ha hb da db e = sym (undamaged-is-sent a ha da) ∙ ap sent e ∙ undamaged-is-sent b hb db
