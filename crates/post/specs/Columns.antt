-- How a line is tested: what each of its 36 columns may hold, and which number may come next.
use Rattle.std.specs.Prelude.{◌≡◌, ℕ, zero, suc, ◌+◌, ◌-◌, ◌*◌, ◌<◌, ◌≤◌, Bool, true, false, cond, ◌&&◌, List, ◌++◌, length, take, drop, replicate, ◌==◌, ◌≢◌, nat_le, nat_lt, slice_index, slice_index_or}
use Rattle.line.specs.Quoted.{char, chars}
use Rattle.text.specs.Classes.{between, same_text}
use Rattle.values.specs.Edition.{row_length}
use Rattle.post.specs.Grammar.{last_line}

-- the lowest and the highest character of each column
unfoldable pub lowest : List ℕ
lowest = chars "131.0.00(" ++ (replicate row_length (char "1") ++ chars ")\r\n")

unfoldable pub highest : List ℕ
highest = chars "131.0.99(" ++ (replicate row_length (char "4") ++ chars ")\r\n")

unfoldable pub column_fits : List ℕ → ℕ → Bool
column_fits s j = between (slice_index lowest j) (slice_index highest j) (slice_index s j)

-- the first n columns
unfoldable pub columns_fit : List ℕ → ℕ → Bool
columns_fit s zero = true
columns_fit s (suc n) = columns_fit s n && column_fits s n

-- the tens digit, the number and the row of a line
unfoldable pub tens_of : List ℕ → ℕ
tens_of s = slice_index s 6 - char "0"

unfoldable pub number_of : List ℕ → ℕ
number_of s = (slice_index s 6 - char "0") * 10 + (slice_index s 7 - char "0")

unfoldable pub row_of : List ℕ → List ℕ
row_of s = take row_length (drop 9 s)

-- the number may come below another, of so many tables
unfoldable pub may_follow : ℕ → ℕ → ℕ → Bool
may_follow tables above n = nat_lt above n && nat_le n tables

-- the number of the line that a text begins with, below another number; 0 where it begins with none
unfoldable pub pick : Bool → ℕ → ℕ
pick true n = n
pick false n = 0

unfoldable pub next_number : ℕ → ℕ → List ℕ → ℕ
next_number tables above s = pick (columns_fit s 36 && may_follow tables above (number_of s)) (number_of s)

-- column j is as in some line that may come next and that is the same in the columns before it
pub record Column (tables above : ℕ) (s : List ℕ) (j : ℕ) : Type 0 where
  pub held : column_fits s j ≡ true
  pub first : j ≡ 0 → above < tables
  pub tens : j ≡ 6 → (above < tens_of s * 10 + 9) × (tens_of s * 10 ≤ tables)
  pub unit : j ≡ 7 → (above < number_of s) × (number_of s ≤ tables)

-- the first column that is not, or the end of the text or of the line
pub record LinePlace (tables above : ℕ) (s : List ℕ) (place : ℕ) : Type 0 where
  pub in-text : place ≤ length s
  pub in-line : place ≤ 36
  pub before : (j : ℕ) → j < place → Column tables above s j
  pub stops : place < 36 → place < length s → Column tables above s place → ⊥

-- how much of the last line a text that begins like it has
pub record LastPlace (s : List ℕ) (place : ℕ) : Type 0 where
  pub some : 0 < place
  pub in-text : place ≤ length s
  pub in-line : place ≤ 3
  pub same : take place last_line ≡ take place s
  pub stops : place < 3 → place < length s → slice_index last_line place ≢ slice_index s place

-- the first column that strays, or the end of the text or of the line
pub record FirstStray (s : List ℕ) (column : ℕ) : Type 0 where
  pub in-text : column ≤ length s
  pub in-line : column ≤ 36
  pub before : (j : ℕ) → j < column → column_fits s j ≡ true
  pub stops : column < 36 → column < length s → column_fits s column ≡ false

-- a line stands above, and the text begins like the last line
unfoldable pub begins_last : ℕ → List ℕ → Bool
begins_last above s = nat_lt 0 above && (nat_lt 0 (length s) && slice_index s 0 == (char "!"))

-- a line stands above, and the text is the last line
unfoldable pub is_last : ℕ → List ℕ → Bool
is_last above s = nat_lt 0 above && same_text s last_line

-- the first column before an end that strays, or the end
pub record StraysFirst (s : List ℕ) (end column : ℕ) : Type 0 where
  pub in-line : column ≤ end
  pub before : (j : ℕ) → j < column → column_fits s j ≡ true
  pub stops : column < end → column_fits s column ≡ false

-- a column that strays, as its number; the end where it fits
unfoldable pub straying : Bool → ℕ → ℕ → ℕ
straying fits column end = cond fits end column

-- the columns at j of the three windows that hold a line's 36: at 0, 16 and 20
unfoldable pub three : List ℕ → ℕ → Bool
three s j = (column_fits s j && column_fits s (16 + j)) && column_fits s (20 + j)

-- the first n of 16 flags took a line in, the others are as they were
pub record TookLine (s : List ℕ) (before after : List Bool) (n : ℕ) : Type 0 where
  pub long : length after ≡ length before
  pub taken : (i : ℕ) → i < n → slice_index_or after i false ≡ (slice_index_or before i false && three s i)
  pub others : (i : ℕ) → n ≤ i → slice_index_or after i false ≡ slice_index_or before i false

-- the two digits of line l as they stand, 528 above its number; and those of the line before it
unfoldable pub raw_at : List ℕ → ℕ → ℕ
raw_at text l = slice_index text (36 * l + 6) * 10 + slice_index text (36 * l + 7)

unfoldable pub raw_before : List ℕ → ℕ → ℕ
raw_before text zero = 528
raw_before text (suc l) = raw_at text l

-- line l stands in its place, and its number may come next
pub record LineRises (tables : ℕ) (text : List ℕ) (l : ℕ) : Type 0 where
  pub held : columns_fit (drop (36 * l) text) 36 ≡ true
  pub low : raw_before text l < raw_at text l
  pub high : raw_at text l ≤ 528 + tables
