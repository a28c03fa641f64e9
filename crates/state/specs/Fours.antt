-- Four characters as one number, and what is asked of four at a time.
use Rattle.std.specs.Prelude.{ℕ, ◌+◌, ◌*◌, Bool, cond, List, ◌==◌, bit_and}
use Rattle.line.specs.Runs.{every}
use Rattle.text.specs.Classes.{between}

-- the first is the lowest
unfoldable pub four_of : ℕ → ℕ → ℕ → ℕ → ℕ
four_of a b c d = a + b * 256 + c * 65536 + d * 16777216

-- four characters '1'
abbrev pub ones : ℕ
ones = 0x31313131

-- no bit is set but the two lowest of each
unfoldable pub in_row : ℕ → Bool
in_row n = bit_and n 0xFCFCFCFC == 0

-- none has its eighth bit set
unfoldable pub in_seven : ℕ → Bool
in_seven n = bit_and n 0x80808080 == 0

-- the row that only edition 2 has: its characters, or unused places
unfoldable pub last_good : Bool → List ℕ → Bool
last_good used s = cond used (every (between 49 52) s) (every (between 0 0) s)
