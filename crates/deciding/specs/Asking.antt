-- Document 01, "Deciding a frame": R1 data. T(), L(), K(), E0() to E4(), Z(xx) with xx 01 to 24; else 9. [10]: an EQM meter is asked G0() to G4() as well.
use Rattle.std.specs.Prelude.{Option, Some, None, cond, ◌&&◌, List, ℕ, eqb, ltb, take, drop}
use Rattle.line.specs.Quoted.{char, chars}
use Rattle.text.specs.Classes.{same_text}
use Rattle.text.specs.Layout.{fits}
use Rattle.values.specs.declared.Energy.{Energy}
use Rattle.values.specs.declared.Energy.TheVariants.{Total}
use Rattle.values.specs.Family.{is_eqm}
use Rattle.values.specs.Registers.{zone_energy}
use Rattle.values.specs.Reading.{TableRead, table_read}
use Rattle.frames.specs.Commands.{ask_clock, ask_serial, ask_account, lettered}
use Rattle.replies.specs.declared.Ask.TheVariants.{Clock, Serial, Account, Energy as energy_ask, Export, Table}
use Rattle.deciding.specs.Verdicts.{Verdict, Refuse, Read}

abbrev pub table_named : TableRead → Verdict
table_named t = cond t.ok (Read (Table t.table)) (Refuse 9)

-- `Z(##)`, a number of so many tables
unfoldable pub table_asked : ℕ → List ℕ → Verdict
table_asked tables d = cond (fits (chars "Z(##)") d) (table_named (table_read tables (take 2 (drop 2 d)))) (Refuse 9)

-- the energy that a letter with a number names: 0 the total, 1 to 4 a zone's, 5 none
unfoldable pub energy_named : ℕ → List ℕ → ℕ
energy_named letter d =
    cond (same_text d (lettered letter 0)) 0
    (cond (same_text d (lettered letter 1)) 1
    (cond (same_text d (lettered letter 2)) 2
    (cond (same_text d (lettered letter 3)) 3
    (cond (same_text d (lettered letter 4)) 4 5))))

unfoldable pub energy_at : ℕ → Energy
energy_at n = cond (eqb n 0) Total (zone_energy n)

-- the energy of such a number, if it is one
unfoldable pub energy_meant : ℕ → Option Energy
energy_meant n = cond (ltb n 5) (Some (energy_at n)) None

-- `E` reads what came in; `G` what went out, of a meter that counts it
unfoldable pub energy_asked : ℕ → ℕ → List ℕ → Verdict
energy_asked tables family d =
    cond (ltb (energy_named (char "E") d) 5) (Read (energy_ask (energy_at (energy_named (char "E") d))))
    (cond (is_eqm family && ltb (energy_named (char "G") d) 5) (Read (Export (energy_at (energy_named (char "G") d))))
    (table_asked tables d))

unfoldable pub asked : ℕ → ℕ → List ℕ → Verdict
asked tables family d =
    cond (same_text d ask_clock) (Read Clock)
    (cond (same_text d ask_serial) (Read Serial)
    (cond (same_text d ask_account) (Read Account)
    (energy_asked tables family d)))
