-- Document 02, [6]: the first data set with an address, as the full reading of the data finds it.
use Rattle.std.specs.Prelude.{Bool, true, false, cond, ◌&&◌, List, [], ◌∷◌, ℕ, suc, ◌+◌, ◌-◌, eqb, length, take, drop, Result, Ok, Err}
use Rattle.line.specs.Runs.{every}
use Rattle.text.specs.Classes.{between, is_address, same_text}
use Rattle.text.specs.DataSet.{DataSet}
use Rattle.reading.specs.Sets.{SetRead, set_read}
use Rattle.reading.specs.Whole.{Found, read_all, place_after}
use Rattle.finding.specs.declared.Match.{Match}
use Rattle.finding.specs.declared.Missed.{Missed}
use Rattle.finding.specs.declared.Missed.TheVariants.{Malformed, Missing}

-- the answer: the number, how many sets were read, the place of a malformed one, and where the address and the value of the match stand
pub record Lookup : Type 0 where
  pub number : ℕ
  pub count : ℕ
  pub place : ℕ
  pub address_start : ℕ
  pub address_length : ℕ
  pub value_start : ℕ
  pub value_length : ℕ

-- whether one of the sets has this address
unfoldable pub among : List ℕ → List DataSet → Bool
among a [] = false
among a (d ∷ ds) = cond (same_text d.address a) true (among a ds)

-- the position of the first that has it, counted from 1, or the number of all sets where none has
unfoldable pub position : List ℕ → List DataSet → ℕ
position a [] = 0
position a (d ∷ ds) = cond (same_text d.address a) 1 (suc (position a ds))

-- 1: how many sets were read, and the one at this place by where its address and its value stand
abbrev pub matched_at : ℕ → ℕ → SetRead → Lookup
matched_at n at r =
    record {
      number = 1;
      count = n;
      place = 0;
      address_start = at;
      address_length = r.address_length;
      value_start = at + r.address_length + 1;
      value_length = r.value_length;
    }

-- 25: a malformed set stands there, behind so many good ones
abbrev pub malformed_after : ℕ → ℕ → Lookup
malformed_after n at =
    record { number = 25; count = n; place = at; address_start = 0; address_length = 0; value_start = 0; value_length = 0 }

-- 27: the sets have ended, so many of them
abbrev pub missing_after : ℕ → Lookup
missing_after n =
    record { number = 27; count = n; place = 0; address_start = 0; address_length = 0; value_start = 0; value_length = 0 }

-- the answer of the code
abbrev pub find_told : Result Match Missed → Lookup
find_told (Ok m) =
    record {
      number = 1;
      count = m.count;
      place = 0;
      address_start = m.address_start;
      address_length = m.address_length;
      value_start = m.value_start;
      value_length = m.value_length;
    }
find_told (Err (Malformed count place)) = malformed_after count place
find_told (Err (Missing count)) = missing_after count

-- the answer, from how many sets were read, whether the last of them is a match, and what the full reading found
unfoldable pub answered : List ℕ → ℕ → Bool → Found → Lookup
answered s n match f =
    cond match (matched_at n (place_after s (n - 1) 0) (set_read s (place_after s (n - 1) 0)))
    (cond (eqb f.number 25) (malformed_after n f.place) (missing_after n))

unfoldable pub lookup : List ℕ → List ℕ → Lookup
lookup s a = answered s (position a (read_all s).sets) (among a (read_all s).sets) (read_all s)

-- the first of the sets that has this address, with an address and a value of no characters where none has
unfoldable pub first_with : List ℕ → List DataSet → DataSet
first_with a [] = record { address = []; value = [] }
first_with a (d ∷ ds) = cond (same_text d.address a) d (first_with a ds)

-- the set that an answer points at
unfoldable pub pointed_at : List ℕ → Lookup → DataSet
pointed_at s l =
    record { address = take l.address_length (drop l.address_start s); value = take l.value_length (drop l.value_start s) }

-- and the place behind its line
abbrev pub end_of : Lookup → ℕ
end_of l = l.value_start + l.value_length + 3

-- what a set can have as its address: 1 to 16 letters, digits, '.' or '*'
unfoldable pub can_be : List ℕ → Bool
can_be a = between 1 16 (length a) && every is_address a
