-- Numbers as a program shows them.
use Rattle.std.specs.Prelude.{◌≡◌, cond, length, take, List, [], ◌∷◌, ◌++◌, ℕ, zero, suc, ◌/◌, ltb}
use Rattle.line.specs.Controls.{LF}
use Rattle.line.specs.Quoted.{chars}
use Rattle.text.specs.Decimal.{decimal}

-- how many digits n has, where it has one more than the limit at most
unfoldable pub width_within : ℕ → ℕ → ℕ
width_within zero n = 1
width_within (suc limit) n = cond (ltb n 10) 1 (suc (width_within limit (n / 10)))

-- of a u64: at most 20 digits
unfoldable pub width_of : ℕ → ℕ
unfolding width_within
width_of n = width_within 19 n

-- in decimal, without leading zeros
unfoldable pub digits_of : ℕ → List ℕ
digits_of n = decimal (width_of n) n

-- two numbers with a space between them, and LF
unfoldable pub number_line : ℕ → ℕ → List ℕ
number_line n m = digits_of n ++ (chars " " ++ (digits_of m ++ (LF ∷ [])))

-- what a refusal is told by: the line of its number and its place, with which what is shown begins
abbrev pub begins_with : ℕ → ℕ → List ℕ → Type 0
begins_with n m shown = take (length (number_line n m)) shown ≡ number_line n m
