-- What is known of a well-formed meter where the code needs it. Assumes nothing.
use mathlib.Core.Path.{◌≡◌, refl, sym, ap, ◌∙◌}
use mathlib.Core.Bool.{Bool, true, ◌&&◌}
use mathlib.Core.List.{List}
use Prim.Native.Nat.{ℕ, ◌+◌, ◌-◌, ◌≤◌, ◌<◌}
use native.Mathlib.Omega.{arith}
use borrow.Author.Tests.{leb-true}
use lib.Dec.{leb}
use lib.ListN.{length, take, drop, length-drop}
use lib.Seq.{length-take-le}
use Rattle.line.proofs.Runs.{and_left, and_right}
use Rattle.text.specs.Classes.{between}
use Rattle.values.specs.Edition.{tables_of}
use Rattle.values.specs.Family.{counter_end, export_end}
use Rattle.values.specs.Registers.{good_table}
use Rattle.values.proofs.Editions.{tables-most}
use Rattle.clock.specs.Dates.{real_date}
use Rattle.clock.specs.Seconds.{real_clock}
use Rattle.clock.proofs.Real.{date-facts}
use Rattle.state.specs.Sizes.{held_places, table_places}
use Rattle.state.specs.declared.Meter.{Meter}
use Rattle.state.specs.WellFormed.{tables_in, family_of, counters_good, archive_good, well_formed}
use Rattle.state.proofs.Parts.{formed, formed-registers, Long, long}
use Rattle.state.proofs.Archives.{formed-archive}
use Rattle.replies.specs.Shown.{Lengths}

-- a piece of what is held is as long as it is asked to be
pub piece-long : (held : List ℕ) → length held ≡ held_places → (a n : ℕ) → a + n ≤ held_places → length (take n (drop a held)) ≡ n
piece-long held h a n r = length-take-le n (drop a held) (omega (arith, length-drop a held, h))

pub archive-good : (m : Meter) → well_formed m ≡ true → archive_good (family_of m) m.registers.archive ≡ true
archive-good m h = (formed-registers m.registers (formed m h).registers).archive

pub lengths : (m : Meter) → well_formed m ≡ true → Lengths (tables_in m.registers) m.registers
lengths m h =
    let l = long m h in
    let a = formed-archive (family_of m) m.registers.archive (archive-good m h) in
    record { serial = l.serial; account = l.account; rows = l.tables; few = tables-most m.registers.facts.edition; places = a.long; kept = a.count }

pub table-low : (tables n : ℕ) → good_table tables n ≡ true → 1 ≤ n
unfolding good_table between
table-low tables n h = leb-true 1 n (and_left (leb 1 n) (leb n tables) h)

pub table-high : (edition n : ℕ) → good_table (tables_of edition) n ≡ true → n ≤ table_places
unfolding good_table between
table-high edition n h =
    omega (arith, tables-most edition, leb-true n (tables_of edition) (and_right (leb 1 n) (leb n (tables_of edition)) h))

pub counters-good : (m : Meter) → well_formed m ≡ true → counters_good (counter_end (family_of m)) m.registers.counters ≡ true
counters-good m h = (formed-registers m.registers (formed m h).registers).counters

pub exported-good : (m : Meter) → well_formed m ≡ true → counters_good (export_end (family_of m)) m.registers.exported ≡ true
exported-good m h = (formed-registers m.registers (formed m h).registers).exported

pub month-low : (m : Meter) → well_formed m ≡ true → m.registers.clock.date.month ≤ 12
unfolding real_clock
month-low m h =
    let d = m.registers.clock.date in
    let real = (formed-registers m.registers (formed m h).registers).clock in
    (date-facts d.year d.month d.day (and_left (real_date d.year d.month d.day) _ real)).last-month
