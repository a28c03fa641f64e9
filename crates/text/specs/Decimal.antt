-- Numbers written in so many decimal digits, and read back.
use Rattle.std.specs.Prelude.{List, [], ◌∷◌, ◌++◌, ℕ, zero, suc, ◌+◌, ◌-◌, ◌*◌, ◌/◌, ◌%◌, take, drop}
use Rattle.line.specs.Quoted.{char}

-- the last w digits of n
unfoldable pub decimal : ℕ → ℕ → List ℕ
decimal zero n = []
decimal (suc w) n = decimal w (n / 10) ++ ((char "0" + n % 10) ∷ [])

-- the number that digits say, after the digits of acc
unfoldable pub value_from : ℕ → List ℕ → ℕ
value_from acc [] = acc
value_from acc (c ∷ cs) = value_from (acc * 10 + (c - char "0")) cs

unfoldable pub value_of : List ℕ → ℕ
unfolding value_from
value_of = value_from 0

-- the number in the w digits from a place on
unfoldable pub number_at : List ℕ → ℕ → ℕ → ℕ
number_at s at w = value_of (take w (drop at s))
