-- Document 01, "Deciding a frame": what is asked by R1, and the data of the answer.
use Rattle.std.specs.Prelude.{Bool, true, false, List, [], ◌∷◌, ℕ}
use Rattle.values.specs.Registers.{energy_no, good_table}
use Rattle.state.specs.declared.Registers.{Registers}
use Rattle.state.specs.WellFormed.{family_in}
use Rattle.datasets.specs.Sets.{DataSet, lines_of, time_set, date_set, serial_set, account_set, energy_set, table_set}
use Rattle.replies.specs.declared.Ask.{Ask}
use Rattle.replies.specs.declared.Ask.TheVariants.{Clock, Serial, Account, Energy, Export, Table}
use Rattle.replies.specs.Shown.{energy, row_of}

-- T(), L(), K(), E0() to E4(), [10]: G0() to G4(), Z(xx)
unfoldable pub asked_sets : Registers → Ask → List DataSet
asked_sets g Clock = time_set g.clock.time ∷ date_set g.clock.date ∷ []
asked_sets g Serial = serial_set g.facts.serial ∷ []
asked_sets g Account = account_set g.account ∷ []
asked_sets g (Energy e) = energy_set (family_in g) false (energy_no e) (energy g.counters e) ∷ []
asked_sets g (Export e) = energy_set (family_in g) true (energy_no e) (energy g.exported e) ∷ []
asked_sets g (Table t) = table_set t.0 (row_of g.tables t.0) ∷ []

-- each line ends CR LF
unfoldable pub asked_data : Registers → Ask → List ℕ
asked_data g a = lines_of (asked_sets g a)

-- a table that is asked for is one of so many
unfoldable pub answerable : ℕ → Ask → Bool
answerable tables (Table t) = good_table tables t.0
answerable tables Clock = true
answerable tables Serial = true
answerable tables Account = true
answerable tables (Energy e) = true
answerable tables (Export e) = true
