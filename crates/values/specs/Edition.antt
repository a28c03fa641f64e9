-- Document 01, "The state", and document 02, [3]: the numbers that an edition of the meter fixes.
use Rattle.std.specs.Prelude.{Bool, cond, ℕ, eqb}
use Rattle.text.specs.Classes.{between}

-- there are editions 1 and 2
unfoldable pub is_edition : ℕ → Bool
is_edition e = between 1 2 e

-- how many tables a meter of an edition holds; the 25th is that of Saturdays
unfoldable pub tables_of : ℕ → ℕ
tables_of e = cond (eqb e 2) 25 24

-- every meter has room for so many rows
abbrev pub table_places : ℕ
table_places = 25

-- a table's row has a character for each hour of a day
abbrev pub row_length : ℕ
row_length = 24
