-- Document 01, "The head": the data sets of a block, one by one.
use Rattle.std.specs.Prelude.{◌≡◌, Bool, true, false, cond, not, ◌&&◌, ◌||◌, List, [], ◌∷◌, ℕ, zero, suc, ◌+◌, ◌-◌, ◌≤◌, eqb, leb, length, take, drop, get_or, Option, Some, None, Result, Ok, Err}
use Rattle.line.specs.Runs.{every}
use Rattle.text.specs.Classes.{between, is_address, is_value}
use Rattle.reading.specs.declared.Extent.{Extent}
use Rattle.reading.specs.declared.Malformed.{Malformed}

-- a value's digits and letters, and the characters that stand between them in a date, a time or a counter
unfoldable pub is_plain : ℕ → Bool
is_plain c = between 42 126 c && not (eqb c 47)

unfoldable pub of_kind : Bool → ℕ → Bool
of_kind value c = cond value (is_value c) (is_address c)

-- how many characters of a kind a text starts with; at most so many are looked at
unfoldable pub leading : (ℕ → Bool) → ℕ → List ℕ → ℕ
leading p zero s = 0
leading p (suc most) [] = 0
leading p (suc most) (c ∷ s) = cond (p c) (suc (leading p most s)) 0

-- the characters from a place up to r, within an end, may all stand in a value
pub record Passes (s : List ℕ) (at end r : ℕ) : Type 0 where
  pub from : at ≤ r
  pub within : r ≤ end
  pub all : every is_value (take (r - at) (drop at s)) ≡ true

-- the characters from a place up to another, no more than are looked at, lead with what follows them
pub record Passed (s : List ℕ) (at next : ℕ) (value : Bool) (most : ℕ) : Type 0 where
  pub from : at ≤ next
  pub there : next ≤ length s
  pub few : next - at ≤ most
  pub lead : (next - at) + leading (of_kind value) (most - (next - at)) (drop next s) ≡ leading (of_kind value) most (drop at s)

-- so many lead, and no more than there are
pub record Leads (value : Bool) (most : ℕ) (s : List ℕ) (r : ℕ) : Type 0 where
  pub is : r ≡ leading (of_kind value) most s
  pub there : r ≤ length s

unfoldable pub starts_with3 : ℕ → ℕ → ℕ → List ℕ → Bool
starts_with3 a b c s = leb 3 (length s) && (eqb (get_or s 0 0) a && (eqb (get_or s 1 0) b && eqb (get_or s 2 0) c))

-- what reading at a place answers: the number, the two lengths, the place to read on, and where a set is malformed its place
pub record SetRead : Type 0 where
  pub number : ℕ
  pub address_length : ℕ
  pub value_length : ℕ
  pub next : ℕ
  pub place : ℕ

abbrev pub end_at : ℕ → SetRead
end_at at = record { number = 0; address_length = 0; value_length = 0; next = at; place = 0 }

abbrev pub malformed_at : ℕ → SetRead
malformed_at at = record { number = 25; address_length = 0; value_length = 0; next = at; place = at }

-- a set with an address and a value of these lengths
abbrev pub set_at : ℕ → ℕ → ℕ → SetRead
set_at at a v = record { number = 1; address_length = a; value_length = v; next = at + a + 1 + v + 3; place = 0 }

-- the answer of the code; at the end and at a malformed set a reader stays
abbrev pub set_told : ℕ → Result (Option Extent) Malformed → SetRead
set_told at (Ok (Some set)) =
    record { number = 1; address_length = set.address_length; value_length = set.value_length; next = set.next; place = 0 }
set_told at (Ok None) = end_at at
set_told at (Err malformed) = malformed_at malformed.place

-- address of 1 to 16, '(', value of 0 to 32, ')' CR LF
unfoldable pub is_set : List ℕ → ℕ → ℕ → Bool
is_set s a v = ((leb 1 a && leb a 16) && eqb (get_or s a 0) 40) && (leb v 32 && starts_with3 41 13 10 (drop (a + 1 + v) s))

unfoldable pub address_length : List ℕ → ℕ
address_length s = leading (of_kind false) 17 s

unfoldable pub value_length : List ℕ → ℕ → ℕ
value_length s a = leading (of_kind true) 33 (drop (a + 1) s)

unfoldable pub set_here : ℕ → List ℕ → SetRead
set_here at s =
    cond (is_set s (address_length s) (value_length s (address_length s))) (set_at at (address_length s) (value_length s (address_length s))) (malformed_at at)

-- a line `!` CR LF ends it; so does the end of the data, or a place past it
unfoldable pub set_read : List ℕ → ℕ → SetRead
set_read s at = cond (leb (length s) at || starts_with3 33 13 10 (drop at s)) (end_at at) (set_here at (drop at s))
