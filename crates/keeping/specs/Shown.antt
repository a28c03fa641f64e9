-- A record tested, and its total shown, as C asks for it.
use Rattle.std.specs.Prelude.{Bool, cond, ℕ}
use Rattle.values.specs.Edition.{is_edition}
use Rattle.state.specs.declared.Meter.{Meter}
use Rattle.state.specs.WellFormed.{edition_of, well_formed}
use Rattle.keeping.specs.declared.Refusal.{Refusal}
use Rattle.keeping.specs.declared.Refusal.TheVariants.{NoEdition, Malformed}

-- what a display shows of a record: the total with 1, or 0 with 16 or 14
pub record Shown : Type 0 where
  pub number : ℕ
  pub total : ℕ

-- by a record's edition, and whether it is well-formed: 1, or 14; [3]: 16 before it for an edition that there is not
abbrev pub checked_by : ℕ → Bool → ℕ
checked_by edition formed = cond (is_edition edition) (cond formed 1 14) 16

-- a well-formed record, or 14; [3]: 16 before it for an edition that there is not
unfoldable pub checked_as : Meter → ℕ
checked_as m = checked_by (edition_of m) (well_formed m)

-- by the same two: the total with 1, or 0 with 16 or 14
abbrev pub shown_by : ℕ → Bool → ℕ → Shown
shown_by edition formed total = cond (is_edition edition) (cond formed (record { number = 1; total = total }) (record { number = 14; total = 0 })) (record { number = 16; total = 0 })

-- the total of a well-formed record with 1, or 0 with 16 or 14
unfoldable pub shown_as : Meter → Shown
shown_as m = shown_by (edition_of m) (well_formed m) m.registers.counters.total

-- a refusal's number, and what is shown with it
abbrev pub number_of : Refusal → ℕ
number_of NoEdition = 16
number_of Malformed = 14

abbrev pub refused_with : Refusal → Shown
refused_with e = record { number = number_of e; total = 0 }
