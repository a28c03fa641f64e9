-- What the registers show: the energies, and the row of a table. And how long the registers are.
use Rattle.std.specs.Prelude.{◌≡◌, List, ℕ, ◌*◌, ◌≤◌, length, take, drop}
use Rattle.values.specs.declared.Energy.{Energy}
use Rattle.values.specs.declared.Energy.TheVariants.{Total, Zone}
use Rattle.state.specs.Sizes.{row_length, table_places, period_places}
use Rattle.state.specs.Setting.{counter_of, row_start}
use Rattle.state.specs.declared.Counters.{Counters}
use Rattle.state.specs.declared.Registers.{Registers}

-- the total as it is kept, or a zone's counter
unfoldable pub energy : Counters → Energy → ℕ
energy c Total = c.total
energy c (Zone z) = counter_of c z.0

-- the characters of a table
unfoldable pub row_of : List ℕ → ℕ → List ℕ
row_of rows n = take row_length (drop (row_start n) rows)

-- ten characters of serial and of account, room for every row of so many tables, and no more periods than there are places
pub record Lengths (tables : ℕ) (g : Registers) : Type 0 where
  pub serial : length g.facts.serial ≡ 10
  pub account : length g.account ≡ 10
  pub rows : length g.tables ≡ table_places * row_length
  pub few : tables ≤ table_places
  pub places : length g.archive.periods ≡ period_places
  pub kept : g.archive.count ≤ period_places
