-- Document 01, "Posts": what a post is, built up from its rows.
use Rattle.std.specs.Prelude.{◌≡◌, ℕ, Bool, true, false, ◌&&◌, List, [], ◌∷◌, ◌++◌, nat_lt}
use Rattle.line.specs.Quoted.{chars}
use Rattle.values.specs.Registers.{good_row, good_table}
use Rattle.values.specs.Texts.{table_text}

-- what a line says: a table's number and its row
pub record Entry : Type 0 where
  pub number : ℕ
  pub row : List ℕ

-- 131.0.xx(row) CR LF
unfoldable pub line_text : ℕ → List ℕ → List ℕ
line_text n row = chars "131.0." ++ (table_text n ++ (chars "(" ++ (row ++ chars ")\r\n")))

-- the lines, one below the other
unfoldable pub lines_text : List Entry → List ℕ
lines_text [] = []
lines_text (e ∷ es) = line_text e.number e.row ++ lines_text es

-- ! CR LF
unfoldable pub last_line : List ℕ
last_line = chars "!\r\n"

unfoldable pub post_text : List Entry → List ℕ
post_text es = lines_text es ++ last_line

-- a good number and a good row, of so many tables
unfoldable pub good_entry : ℕ → Entry → Bool
good_entry tables e = good_table tables e.number && good_row e.row

-- each entry is good, and each number larger than the one before it
unfoldable pub rising : ℕ → ℕ → List Entry → Bool
rising tables above [] = true
rising tables above (e ∷ es) = good_entry tables e && (nat_lt above e.number && rising tables e.number es)

-- one or more of them
unfoldable pub good_entries : ℕ → List Entry → Bool
good_entries tables [] = false
good_entries tables (e ∷ es) = rising tables 0 (e ∷ es)

-- the text of good entries, and nothing more
pub record IsPost (tables : ℕ) (text : List ℕ) : Type 0 where
  pub entries : List Entry
  pub good : good_entries tables entries ≡ true
  pub spelt : post_text entries ≡ text
