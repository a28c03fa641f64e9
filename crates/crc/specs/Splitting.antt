-- How the code goes about it: the register without the bit that is a parity, and that bit put in. No promise outside this crate speaks of it.
use Rattle.std.specs.Prelude.{cond, ℕ, ◌/◌, ◌%◌}
use Rattle.std.specs.Int.Bits.{bit_xor}
use Rattle.line.specs.Characters.{damaged_at}

-- what comes in for a one that falls out, without the factor x + 1
abbrev pub BARE : ℕ
BARE = 0x6000

-- what the factor makes of a one that fell out, and goes on making of it
abbrev pub ODD : ℕ
ODD = 0xC001

-- the register with ODD where it and the sum of all bytes have an odd count of ones
unfoldable pub evened : ℕ → ℕ → ℕ
evened c sum = cond (damaged_at (bit_xor (bit_xor sum (c % 256)) (c / 256))) (bit_xor c ODD) c
