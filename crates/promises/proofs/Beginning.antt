-- Where a meter begins: the blank state and the one made of any facts are well-formed. Assumes nothing.
use mathlib.Core.Path.{◌≡◌, refl}
use mathlib.Core.Bool.{Bool, true, false, cond}
use mathlib.Core.List.{List, ◌++◌}
use Prim.Native.Nat.{ℕ, ◌-◌, ◌*◌, ◌≤◌}
use native.Mathlib.Omega.{arith}
use native.Mathlib.Nat.{zero-mod}
use borrow.Author.Tests.{lt-ltb}
use lib.Dec.{eqb}
use lib.ListN.{replicate}
use Rattle.line.specs.Runs.{every}
use Rattle.text.specs.Classes.{between, is_digit, is_letter}
use Rattle.clock.specs.Dates.{leap, thirty, days_in, real_date, real_time}
use Rattle.clock.specs.Seconds.{real_clock, date_of, time_of}
use Rattle.clock.specs.declared.Clock.{Clock}
use Rattle.values.specs.Edition.{is_edition, tables_of}
use Rattle.values.specs.Family.{is_family, counter_end, export_end}
use Rattle.values.specs.Registers.{good_digits, is_account_character, good_account}
use Rattle.state.specs.Sizes.{row_length, table_places}
use Rattle.state.specs.declared.Facts.{Facts}
use Rattle.state.specs.declared.Meter.{Meter}
use Rattle.state.specs.WellFormed.{below, zones_below, both_below, sum_of, total, counters_good, tables_good, no_time, unused, every_period, archive_good, tables_in, link_good, facts_good, factory_good, registers_good, well_formed}
use Rattle.state.specs.Making.{Made, no_counters, empty_archive, facts_of, new_rows, meter_of, blank_meter, made_of}
use Rattle.state.proofs.Parts.{well-formed, rest-good}
use Rattle.promises.proofs.Choices as choice
use Rattle.promises.proofs.Ends.{counter-end-some, export-end-some}
use Rattle.promises.proofs.Formed.{empty-good}

-- every row of a new meter is of '1', and the places behind them are unused
rows_of : (two : Bool) → tables_good (cond two 25 24) (replicate (cond two 25 24 * row_length) 49 ++ replicate ((table_places - cond two 25 24) * row_length) 0) ≡ true
unfolding tables_good every between
rows_of true = refl
rows_of false = refl

new-rows-good : (edition : ℕ) → tables_good (tables_of edition) (new_rows edition) ≡ true
unfolding new_rows tables_of
new-rows-good edition = rows_of (eqb edition 2)

-- nothing counted is below every end, and so is its total
nothing-low : (end : ℕ) → 1 ≤ end → below end 0 ≡ true
unfolding below
nothing-low end some = lt-ltb 0 end some

nothing-good : (end : ℕ) → 1 ≤ end → counters_good end no_counters ≡ true
unfolding zones_below total sum_of every
nothing-good end some = rw (nothing-low end some, zero-mod end)

nothing-kept : (family : ℕ) → archive_good family empty_archive ≡ true
unfolding no_time unused every_period archive_good both_below zones_below below every
nothing-kept family = refl

new-registers : (facts : Facts) (account : List ℕ) (clock : Clock) → factory_good facts account clock ≡ true
    → registers_good (meter_of facts account clock).registers ≡ true
unfolding registers_good
new-registers facts account clock h =
    let family = facts.decimals in
    rw (h, nothing-good (counter_end family) (counter-end-some family), nothing-good (export_end family) (export-end-some family), new-rows-good facts.edition, nothing-kept family)

pub new-well-formed : (facts : Facts) (account : List ℕ) (clock : Clock) → factory_good facts account clock ≡ true
    → well_formed (meter_of facts account clock) ≡ true
new-well-formed facts account clock h =
    well-formed (meter_of facts account clock)
    (record { mode = omega arith; attempts = omega arith; speed = rest-good facts.link 0; receiver = empty-good 0; registers = new-registers facts account clock h })

blank-facts : factory_good (facts_of (replicate 10 48) (replicate 8 48) 1 1 0) (replicate 10 32) (record { date = date_of 2000 1 1; time = time_of 0 0 0 }) ≡ true
unfolding factory_good facts_good is_edition link_good is_family good_digits good_account is_account_character is_digit is_letter every between real_clock real_date real_time days_in leap thirty
blank-facts = refl

pub blank-well-formed : well_formed blank_meter ≡ true
blank-well-formed = new-well-formed _ _ _ blank-facts

-- whether the facts are good or not
pub made-well-formed : (facts : Facts) (account : List ℕ) (clock : Clock) → well_formed (made_of facts account clock).meter ≡ true
unfolding made_of
made-well-formed facts account clock =
    choice.given (λ (r : Made). well_formed r.meter ≡ true) (factory_good facts account clock)
    (new-well-formed facts account clock) blank-well-formed
