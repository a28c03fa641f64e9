-- A line's form: numbers of a fixed number of digits, with fixed characters between them, as `yy-mm-dd`.
use Rattle.std.specs.Prelude.{Bool, true, false, not, ◌&&◌, ◌||◌, List, [], ◌∷◌, ◌++◌, ℕ, ◌+◌, ◌^◌, eqb, ltb, length, replicate}
use Rattle.line.specs.Quoted.{char}
use Rattle.line.specs.Runs.{every}
use Rattle.text.specs.Classes.{is_digit, matching}
use Rattle.text.specs.Decimal.{decimal, number_at}

pub data Piece : Type 0 where
  digits : ℕ → Piece
  fixed : List ℕ → Piece

-- the text of some numbers in a form
unfoldable pub layout_text : List Piece → List ℕ → List ℕ
layout_text [] ns = []
layout_text (fixed t ∷ ps) ns = t ++ layout_text ps ns
layout_text (digits w ∷ ps) [] = []
layout_text (digits w ∷ ps) (n ∷ ns) = decimal w n ++ layout_text ps ns

-- the numbers that stand in a text of that form, from a place on
unfoldable pub numbers_from : ℕ → List Piece → List ℕ → List ℕ
numbers_from at [] s = []
numbers_from at (fixed t ∷ ps) s = numbers_from (at + length t) ps s
numbers_from at (digits w ∷ ps) s = number_at s at w ∷ numbers_from (at + w) ps s

-- a form as a pattern: '#' stands for any digit, and another character for itself
unfoldable pub pattern : List Piece → List ℕ
pattern [] = []
pattern (fixed t ∷ ps) = t ++ pattern ps
pattern (digits w ∷ ps) = replicate w (char "#") ++ pattern ps

-- one character against one of the pattern
unfoldable pub agrees : ℕ → ℕ → Bool
agrees p c = (eqb p (char "#") && is_digit c) || (not (eqb p (char "#")) && eqb p c)

-- a text against a pattern, as long as it
unfoldable pub fits : List ℕ → List ℕ → Bool
fits = matching agrees

-- as many numbers as the form has, each within its digits
unfoldable pub numbers_fit : List Piece → List ℕ → Bool
numbers_fit [] [] = true
numbers_fit [] (n ∷ ns) = false
numbers_fit (fixed t ∷ ps) ns = numbers_fit ps ns
numbers_fit (digits w ∷ ps) [] = false
numbers_fit (digits w ∷ ps) (n ∷ ns) = ltb n (10 ^ w) && numbers_fit ps ns

-- no fixed character is the pattern's '#'
unfoldable pub plain : List Piece → Bool
plain [] = true
plain (fixed t ∷ ps) = every (λ c. not (eqb c (char "#"))) t && plain ps
plain (digits w ∷ ps) = plain ps
