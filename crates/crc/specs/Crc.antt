-- The CRC of the Modbus serial line: sixteen bits that start as ones, the polynomial A001 hex, the low byte sent first.
use Rattle.std.specs.Prelude.{Bool, ◌&&◌, List, [], ◌∷◌, ◌++◌, ℕ, zero, suc, ◌+◌, ◌-◌, ◌*◌, ◌/◌, ◌%◌, eqb, leb, ltb, length, get_or, take}
use Rattle.std.specs.Int.Bits.{bit_xor}

-- one bit goes out at the low end; where it is a one, the polynomial comes in
unfoldable pub bit_out : ℕ → ℕ → ℕ
bit_out p c = bit_xor (c / 2) (c % 2 * p)

-- so many bits
unfoldable pub out : ℕ → ℕ → ℕ → ℕ
out p zero c = c
out p (suc n) c = out p n (bit_out p c)

-- the register after one more byte, which is joined to its low half
unfoldable pub joined : ℕ → ℕ → ℕ → ℕ
joined p c b = out p 8 (bit_xor c b)

-- and after all bytes of a message
unfoldable pub crc_from : ℕ → ℕ → List ℕ → ℕ
crc_from p c [] = c
crc_from p c (b ∷ bs) = crc_from p (joined p c b) bs

abbrev pub POLYNOMIAL : ℕ
POLYNOMIAL = 0xA001

-- the CRC of a message: it starts with sixteen ones
unfoldable pub crc_of : List ℕ → ℕ
crc_of = crc_from POLYNOMIAL 0xFFFF

-- a message with its CRC behind it, low byte first
unfoldable pub with_crc : List ℕ → List ℕ
with_crc s = s ++ (crc_of s % 256 ∷ crc_of s / 256 ∷ [])

-- the last two bytes are the CRC of what stands before them, low byte first
unfoldable pub checks : List ℕ → Bool
checks s = leb 2 (length s) && eqb (get_or s (length s - 2) 0 + get_or s (length s - 1) 0 * 256) (crc_of (take (length s - 2) s))

-- what a list of bytes has in each place
abbrev pub is_byte : ℕ → Bool
is_byte b = ltb b 256
