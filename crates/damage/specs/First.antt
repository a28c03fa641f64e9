-- [2]: where a run of bytes was damaged first, counted from its start at 0.
use Rattle.std.specs.Prelude.{◌≡◌, true, cond, List, [], ◌∷◌, ℕ, ◌+◌, ◌<◌, length, get_or, take}
use Rattle.line.specs.Characters.{damaged_at, undamaged_all}

-- how many undamaged bytes stand before the first damaged one, or before the end
unfoldable pub first_damaged : List ℕ → ℕ
first_damaged [] = 0
first_damaged (b ∷ bs) = cond (damaged_at b) 0 (first_damaged bs + 1)

-- the byte at this place is damaged, and none before it
pub record HurtAt (bs : List ℕ) (place : ℕ) : Type 0 where
  pub within : place < length bs
  pub damaged : damaged_at (get_or bs place 0) ≡ true
  pub before : undamaged_all (take place bs) ≡ true
