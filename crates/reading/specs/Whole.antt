-- Document 01, "The head": all data sets of some data, read one after the other.
use Rattle.std.specs.Prelude.{cond, List, [], ◌∷◌, ℕ, zero, suc, ◌+◌, eqb, length, take, drop}
use Rattle.line.specs.Quoted.{chars}
use Rattle.text.specs.DataSet.{DataSet}
use Rattle.reading.specs.Sets.{SetRead, set_read}

-- ! CR LF
unfoldable pub last_line : List ℕ
last_line = chars "!\r\n"

-- the set that was read at a place
unfoldable pub set_of : List ℕ → ℕ → SetRead → DataSet
set_of s at r =
    record { address = take r.address_length (drop at s); value = take r.value_length (drop (at + r.address_length + 1) s) }

-- what a reader finds: the sets up to the end or to a malformed one, the last answer, and the place where it stays
pub record Found : Type 0 where
  pub sets : List DataSet
  pub number : ℕ
  pub place : ℕ

unfoldable pub also : DataSet → Found → Found
also d f = record { sets = d ∷ f.sets; number = f.number; place = f.place }

-- from a place on; at most so many are looked at
unfoldable pub read_from : ℕ → List ℕ → ℕ → Found
read_from zero s at = record { sets = []; number = 0; place = at }
read_from (suc more) s at =
    cond (eqb (set_read s at).number 1) (also (set_of s at (set_read s at)) (read_from more s (set_read s at).next))
    (record { sets = []; number = (set_read s at).number; place = at })

-- all of them: there are no more sets than characters
unfoldable pub read_all : List ℕ → Found
read_all s = read_from (suc (length s)) s 0

-- where a reader stands after so many sets from a place on
unfoldable pub place_after : List ℕ → ℕ → ℕ → ℕ
place_after s zero at = at
place_after s (suc n) at = place_after s n (set_read s at).next
