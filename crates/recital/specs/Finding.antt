-- Document 02, [6], end to end: one register of a meter's data block, found by its address.
use Rattle.std.specs.Prelude.{◌≡◌, false, List, ◌++◌, ℕ, ◌+◌}
use Rattle.line.specs.Quoted.{chars}
use Rattle.values.specs.Family.{import_name, counter_end}
use Rattle.values.specs.Texts.{table_text}
use Rattle.state.specs.declared.Registers.{Registers}
use Rattle.state.specs.WellFormed.{tables_in, family_in, total}
use Rattle.replies.specs.Shown.{row_of}
use Rattle.replies.specs.Block.{block_data}
use Rattle.finding.specs.Finding.{lookup, pointed_at}
use Rattle.recital.specs.Recital.{Register, energy, row, ReadsAs, sets_before}

-- the address is found at this position, and what stands there reads as this register
pub record FoundAs (content a : List ℕ) (n : ℕ) (x : Register) : Type 0 where
  pub number : (lookup content a).number ≡ 1
  pub count : (lookup content a).count ≡ n
  pub reads : ReadsAs x (pointed_at content (lookup content a))

-- of the total, as a family names it
unfoldable pub total_address : ℕ → List ℕ
total_address family = import_name family ++ chars "0"

-- of a table's row
unfoldable pub row_address : ℕ → List ℕ
row_address n = chars "131.0." ++ table_text n

-- the total is the ninth set of the data block; the row of the last table is the last, the 33rd or the 34th, or with what went out the 38th or the 39th
pub record FoundInBlock (g : Registers) : Type 0 where
  pub whole : FoundAs (block_data (tables_in g) g) (total_address (family_in g)) 9 (energy (family_in g) false 0 (total (counter_end (family_in g)) g.counters))
  pub last_row : FoundAs (block_data (tables_in g) g) (row_address (tables_in g)) (sets_before (family_in g) + tables_in g) (row (tables_in g) (row_of g.tables (tables_in g)))
