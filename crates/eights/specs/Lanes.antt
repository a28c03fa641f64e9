-- Characters taken together as one number, and a form's test on that number.
use Rattle.std.specs.Prelude.{ℕ, zero, suc, ◌+◌, ◌*◌, ◌/◌, ◌%◌, ◌^◌, Bool, cond, ◌&&◌, List, [], ◌∷◌, ◌==◌, bit_and, nat_lt}
use Rattle.line.specs.Quoted.{char}
use Rattle.line.specs.Balance.{folded}

-- the first character lowest, each in a lane of 256 values
unfoldable pub lanes : List ℕ → ℕ
lanes [] = 0
lanes (c ∷ cs) = lanes cs * 256 + c

-- of a pattern's character: the least that agrees with it, the bits that all of those share, and how far the greatest is from losing them
unfoldable pub least : ℕ → ℕ
least p = cond (p == (char "#")) (char "0") p

unfoldable pub common : ℕ → ℕ
common p = cond (p == (char "#")) 0xF0 0xFF

unfoldable pub spare : ℕ → ℕ
spare p = cond (p == (char "#")) 6 0

-- all lanes have these bits, as they are and raised
unfoldable pub keeps : ℕ → ℕ → ℕ → ℕ → Bool
keeps low bits raise w = bit_and w bits == low && bit_and ((w + raise) % 2 ^ 64) bits == low

-- each lane with the next as a number of two digits
unfoldable pub paired : ℕ → ℕ
paired d = d * 10 + d / 256

unfoldable pub is_byte : ℕ → Bool
is_byte c = nat_lt c 256

-- lanes of seven bits, each with the bit on top that evens them: of the fold, a lane's lowest bit tells it
unfoldable pub evened : ℕ → ℕ
evened m = bit_and (folded m) 0x0101010101010101 * 128 + m

-- so many lanes, the lowest first
unfoldable pub unlaned : ℕ → ℕ → List ℕ
unlaned zero w = []
unlaned (suc n) w = w % 256 ∷ unlaned n (w / 256)
