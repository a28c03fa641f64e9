-- How a field is tested: what each of its columns may hold.
use Rattle.std.specs.Prelude.{◌≡◌, Bool, true, false, cond, ◌&&◌, List, ℕ, ◌<◌, ◌≤◌, eqb, ltb, leb, length, get_or, take, drop}
use Rattle.line.specs.Quoted.{char}
use Rattle.line.specs.Runs.{every}
use Rattle.text.specs.Classes.{between}
use Rattle.values.specs.Edition.{row_length}
use Rattle.values.specs.Registers.{is_account_character}

-- of the account's field: 01 00 0A, and the ten characters
unfoldable pub account_column : ℕ → ℕ → Bool
account_column j c = cond (eqb j 0) (eqb c 1) (cond (eqb j 1) (eqb c 0) (cond (eqb j 2) (eqb c 10) (is_account_character c)))

-- of a table's field below another number: 02 00 19, a number that may follow, and the row; a tag stands only where some number may follow
unfoldable pub table_column : ℕ → ℕ → ℕ → ℕ → Bool
table_column tables above j c =
    cond (eqb j 0) (eqb c 2 && ltb above tables)
    (cond (eqb j 1) (eqb c 0)
    (cond (eqb j 2) (eqb c 25)
    (cond (eqb j 3) (ltb above c && leb c tables) (between (char "1") (char "4") c))))

-- the first column that strays, or the end of the text or of the field
pub record FirstStray (column : ℕ → ℕ → Bool) (width : ℕ) (s : List ℕ) (place : ℕ) : Type 0 where
  pub in-text : place ≤ length s
  pub in_field : place ≤ width
  pub before : (j : ℕ) → j < place → column j (get_or s j 0) ≡ true
  pub stops : place < width → place < length s → column place (get_or s place 0) ≡ false

-- a text begins with the field of a table that may follow
unfoldable pub table_stands : ℕ → ℕ → List ℕ → Bool
table_stands tables above s =
    leb 28 (length s)
    && (((eqb (get_or s 0 0) 2 && eqb (get_or s 1 0) 0) && eqb (get_or s 2 0) 25)
    && ((ltb above (get_or s 3 0) && leb (get_or s 3 0) tables) && every (between (char "1") (char "4")) (take row_length (drop 4 s))))
