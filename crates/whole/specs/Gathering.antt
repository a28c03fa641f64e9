-- The same by a look at the whole slice: how many of the bytes before the last are held when it comes, and the receiver that holds them.
use Rattle.std.specs.Prelude.{Bool, cond, not, List, [], ◌∷◌, ◌++◌, map, ℕ, ◌+◌, ◌-◌, eqb, leb, length, get_or, take, drop, replicate, Option, Some, None}
use Rattle.line.specs.Controls.{SOH, ETX}
use Rattle.line.specs.Characters.{undamaged_all}
use Rattle.damage.specs.First.{first_damaged}
use Rattle.state.specs.Sizes.{most_held, held_places}
use Rattle.state.specs.declared.Receiver.{Receiver}
use Rattle.meter.specs.Character.{symbol}

-- an undamaged control character
unfoldable pub is : ℕ → ℕ → Bool
is c b = eqb (symbol b) c

abbrev pub is_not : ℕ → ℕ → Bool
is_not c b = not (is c b)

-- so many are held, the last of them `before`, and b comes, which is not the last byte: 0 where no frame can come of it any more
unfoldable pub held_next : ℕ → ℕ → ℕ → ℕ
held_next n before b = cond (eqb n 0) 0 (cond (is ETX before) 0 (cond (is SOH b) 1 (cond (leb most_held n) 0 (n + 1))))

unfoldable pub held_after : ℕ → ℕ → List ℕ → ℕ
held_after n before [] = n
held_after n before (b ∷ bs) = held_after (held_next n before b) b bs

-- b is the last byte: so many are held when it finishes a frame, else 0
unfoldable pub held_at_last : ℕ → ℕ → ℕ → ℕ
held_at_last n before b = cond (is ETX before) n (cond (is SOH b) 0 (cond (leb most_held n) n 0))

-- so many are held, where any are
abbrev pub any_held : ℕ → Option ℕ
any_held n = cond (eqb n 0) None (Some n)

-- the bytes of a slice before its last, and the last
abbrev pub front : List ℕ → List ℕ
front bytes = take (length bytes - 1) bytes

abbrev pub last_of : List ℕ → ℕ
last_of bytes = get_or bytes (length bytes - 1) 0

-- from the first on, which is an SOH
unfoldable pub held_over : List ℕ → ℕ
held_over run = held_after 1 (get_or run 0 0) (drop 1 run)

-- of a whole slice
unfoldable pub held_in : List ℕ → ℕ
held_in bytes = cond (is SOH (get_or bytes 0 0)) (held_at_last (held_over (front bytes)) (last_of (front bytes)) (last_of bytes)) 0

-- the last n of the bytes before the last
abbrev pub run_of : ℕ → List ℕ → List ℕ
run_of n bytes = take n (drop (length bytes - 1 - n) bytes)

-- a receiver with the characters of a run: a damaged one is held as 0, and the mark and the place are those of the first
abbrev pub filled : List ℕ → Receiver
filled run =
    record {
      held = map symbol run ++ replicate (held_places - length run) 0;
      count = length run;
      mark = cond (undamaged_all run) 0 1;
      place = cond (undamaged_all run) 0 (first_damaged run);
    }
