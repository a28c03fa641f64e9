-- Document 01, "Deciding a frame": the data block.
use Rattle.std.specs.Prelude.{Bool, true, false, cond, List, [], ◌∷◌, ◌++◌, ℕ, zero, suc, eqb}
use Rattle.line.specs.Quoted.{chars}
use Rattle.clock.specs.declared.Clock.{Clock}
use Rattle.values.specs.Family.{is_eqm}
use Rattle.state.specs.declared.Counters.{Counters}
use Rattle.state.specs.declared.Registers.{Registers}
use Rattle.state.specs.Setting.{counter_of}
use Rattle.state.specs.WellFormed.{family_in}
use Rattle.datasets.specs.Sets.{DataSet, lines_of, time_set, date_set, serial_set, account_set, energy_set, table_set}
use Rattle.replies.specs.Shown.{row_of}

-- serial, date, time, account
unfoldable pub fact_sets : List ℕ → Clock → List ℕ → List DataSet
fact_sets serial clock account = serial_set serial ∷ date_set clock.date ∷ time_set clock.time ∷ account_set account ∷ []

-- T1 to T4, total
unfoldable pub energy_sets : ℕ → Bool → Counters → List DataSet
energy_sets family out c =
    energy_set family out 1 (counter_of c 1) ∷ energy_set family out 2 (counter_of c 2) ∷ energy_set family out 3 (counter_of c 3)
    ∷ energy_set family out 4 (counter_of c 4) ∷ energy_set family out 0 c.total ∷ []

-- [10]: what came in, and behind it what went out of an EQM meter
unfoldable pub in_and_out : ℕ → List DataSet → List DataSet → List DataSet
in_and_out family came went = came ++ cond (is_eqm family) went []

abbrev pub direction_sets : ℕ → Counters → Counters → List DataSet
direction_sets family counters exported = in_and_out family (energy_sets family false counters) (energy_sets family true exported)

-- so many characters: five lines of 24, or ten of 22
unfoldable pub directions_long : ℕ → ℕ
directions_long family = cond (eqb family 0) 120 220

-- tables 01 to n
unfoldable pub table_sets : List ℕ → ℕ → List DataSet
table_sets tables zero = []
table_sets tables (suc n) = table_sets tables n ++ (table_set (suc n) (row_of tables (suc n)) ∷ [])

-- all of it, of a meter with so many tables
unfoldable pub block_sets : ℕ → Registers → List DataSet
block_sets tables g =
    fact_sets g.facts.serial g.clock g.account ++ (direction_sets (family_in g) g.counters g.exported ++ table_sets g.tables tables)

-- and the line that ends it, `!` CR LF
unfoldable pub block_data : ℕ → Registers → List ℕ
block_data tables g = lines_of (block_sets tables g) ++ chars "!\r\n"
