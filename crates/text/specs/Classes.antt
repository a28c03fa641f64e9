-- Document 01's kinds of character, and a text that is exactly another.
use Rattle.std.specs.Prelude.{Bool, true, false, not, ◌&&◌, ◌||◌, List, [], ◌∷◌, ℕ, leb, eqb}
use Rattle.line.specs.Quoted.{char}

-- lo to hi, both included
unfoldable pub between : ℕ → ℕ → ℕ → Bool
between lo hi c = leb lo c && leb c hi

unfoldable pub is_digit : ℕ → Bool
unfolding between
is_digit c = between (char "0") (char "9") c

-- 20 to 7E hex
unfoldable pub is_printable : ℕ → Bool
unfolding between
is_printable c = between 0x20 0x7E c

-- A to Z and a to z
unfoldable pub is_letter : ℕ → Bool
unfolding between
is_letter c = between (char "A") (char "Z") c || between (char "a") (char "z") c

-- in a data set's address: letters, digits, '.' or '*'
unfoldable pub is_address : ℕ → Bool
is_address c = (is_letter c || is_digit c) || (eqb c (char ".") || eqb c (char "*"))

-- in a data set's value: printable characters without `()/!`
unfoldable pub is_value : ℕ → Bool
is_value c = is_printable c && (not (eqb c (char "(") || eqb c (char ")")) && not (eqb c (char "/") || eqb c (char "!")))

-- two texts of one length, whose characters agree place by place
unfoldable pub matching : (ℕ → ℕ → Bool) → List ℕ → List ℕ → Bool
matching p [] [] = true
matching p [] (t ∷ ts) = false
matching p (s ∷ ss) [] = false
matching p (s ∷ ss) (t ∷ ts) = p s t && matching p ss ts

-- the same characters, and as many
unfoldable pub same_text : List ℕ → List ℕ → Bool
same_text = matching eqb
