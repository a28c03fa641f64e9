-- What bytes say, by a look at the bytes alone.
use Rattle.std.specs.Prelude.{Bool, cond, ◌&&◌, List, [], ◌∷◌, map, ℕ, ◌-◌, eqb, length, get_or}
use Rattle.line.specs.Characters.{seven, undamaged_at, undamaged_all}
use Rattle.text.specs.Classes.{same_text}

-- an undamaged byte with this character
unfoldable pub carries : ℕ → ℕ → Bool
carries c b = undamaged_at b && eqb (seven b) c

-- none of the bytes is damaged, and their characters are the text's
unfoldable pub says : List ℕ → List ℕ → Bool
says bytes text = undamaged_all bytes && same_text (map seven bytes) text

-- the first of two lists that has anything in it
unfoldable pub or_else : List ℕ → List ℕ → List ℕ
or_else [] ys = ys
or_else (x ∷ xs) ys = x ∷ xs

-- the bytes from the last c on, none where it never came
unfoldable pub since : ℕ → List ℕ → List ℕ
since c [] = []
since c (b ∷ bs) = or_else (since c bs) (cond (carries c b) (b ∷ bs) [])

-- the last of them is a c
unfoldable pub ends_with : ℕ → List ℕ → Bool
ends_with c bytes = carries c (get_or bytes (length bytes - 1) 0)
