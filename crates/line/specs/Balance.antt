-- How parity is worked out without counting ones. No promise outside this crate speaks of it.
use Rattle.std.specs.Prelude.{ℕ, ◌+◌, ◌*◌, ◌/◌, ◌%◌}
use Rattle.std.specs.Int.Bits.{bit_xor}

-- a byte with four of its bits turned round: the product's other factor
abbrev pub turned : ℕ → ℕ
turned b = bit_xor b 0x66

-- a byte whose top bit is the one that evens the seven data bits of b
unfoldable pub balance_of : ℕ → ℕ
balance_of b = (b * turned b + 0x30) % 256

-- a byte folded upon itself, by four bits, by two and by one: its lowest bit is the exclusive-or of all eight
abbrev pub by_four : ℕ → ℕ
by_four b = bit_xor b (b / 16)

abbrev pub by_two : ℕ → ℕ
by_two b = bit_xor b (b / 4)

abbrev pub folded : ℕ → ℕ
folded b = bit_xor (by_two (by_four b)) (by_two (by_four b) / 2)
