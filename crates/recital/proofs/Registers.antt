-- Each data set of well-formed registers reads as its register. Assumes nothing.
use mathlib.Core.Path.{◌≡◌, refl, subst}
use mathlib.Core.Bool.{Bool, true, false, cond, ◌&&◌}
use mathlib.Core.List.{List, [], ◌∷◌, ◌++◌}
use Prim.Native.Nat.{ℕ, zero, suc, ◌-◌, ◌*◌, ◌≤◌, ◌<◌}
use native.Mathlib.Omega.{arith}
use borrow.Author.Tests.{leb-true, eqb-true, eq-eqb, ltb-true}
use lib.Dec.{eqb, leb, ltb}
use lib.ListN.{length, get_or}
use Rattle.line.specs.Runs.{every}
use Rattle.line.proofs.Runs.{and_left, and_right, and_both}
use Rattle.text.specs.Classes.{between}
use Rattle.clock.specs.Dates.{real_date, real_time}
use Rattle.clock.specs.Seconds.{real_clock, real_stamp}
use Rattle.values.specs.declared.Energy.{Energy}
use Rattle.values.specs.declared.Energy.TheVariants.{Total, Zone}
use Rattle.values.specs.Family.{is_eqm, counter_end, export_end}
use Rattle.values.specs.Registers.{good_row, good_table, energy_no, zone_energy}
use Rattle.values.proofs.Editions.{tables-most}
use Rattle.values.proofs.RoundTrip.{date-reads-back, time-reads-back, stamp-reads-back}
use Rattle.values.proofs.Families.{energy-reads-back}
use Rattle.values.proofs.Serials.{serial-reads-back, account-reads-back, row-reads-back}
use Rattle.state.specs.Sizes.{row_length}
use Rattle.state.specs.declared.Counters.{Counters}
use Rattle.state.specs.declared.Period.{Period}
use Rattle.state.specs.declared.Registers.{Registers}
use Rattle.state.specs.WellFormed.{below, zones_below, counters_good, both_below, period_good, registers_good, tables_in, family_in}
use Rattle.state.specs.Setting.{zone_place, counter_of}
use Rattle.state.proofs.Parts.{formed-registers, formed-facts, counter-small, total-is-sum, total-small, rows_long, rows-held}
use Rattle.datasets.specs.Sets.{DataSet, time_set, date_set, serial_set, account_set, energy_set, table_set, closed_set, kept_set}
use Rattle.replies.specs.Shown.{row_of}
use Rattle.replies.specs.Shown as shown
use Rattle.replies.proofs.Sizes.{row-long}
use Rattle.replies.proofs.Good.{row-zones}
use Rattle.replies.specs.Block.{energy_sets, direction_sets}
use Rattle.replies.specs.Block as shows
use Rattle.replies.specs.Periods.{kept_in, kept_sets, period_sets}
use Rattle.promises.proofs.Ends.{counter-end-some, export-end-some, export-end-low}
use Rattle.recital.specs.Recital.{Register, serial, date, time, account, energy, row, closed, kept, ReadsAs, Recites, energies_say, in_and_out, directions_say, kept_say, counts, period_says}

-- one data set more
pub and_then : (x : Register) (d : DataSet) (xs : List Register) (ds : List DataSet) → ReadsAs x d → Recites ds xs → Recites (d ∷ ds) (x ∷ xs)
unfolding Recites
and_then x d xs ds h hs = (h, hs)

pub and_none : Recites [] []
unfolding Recites
and_none = tt

-- sets after sets
pub and-all : (ds es : List DataSet) (xs ys : List Register) → Recites ds xs → Recites es ys → Recites (ds ++ es) (xs ++ ys)
unfolding Recites
and-all [] es [] ys h k = k
and-all [] es (x ∷ xs) ys h k = absurd h
and-all (d ∷ ds) es [] ys h k = absurd h
and-all (d ∷ ds) es (x ∷ xs) ys h k = (h.0, and-all ds es xs ys h.1 k)

-- [10]: what came in, and what went out of a meter that counts it
pub both-recite : (family : ℕ) (ds es : List DataSet) (xs ys : List Register) → Recites ds xs → Recites es ys
    → Recites (shows.in_and_out family ds es) (in_and_out family xs ys)
unfolding shows.in_and_out in_and_out
both-recite family ds es xs ys h k = and-all ds (cond (is_eqm family) es []) xs (cond (is_eqm family) ys []) h (went (is_eqm family))
  where
    went : (b : Bool) → Recites (cond b es []) (cond b ys [])
    went true = k
    went false = and_none

pub energy-reads : (family : ℕ) (out : Bool) (n count : ℕ) → count < counter_end family → ReadsAs (energy family out n count) (energy_set family out n count)
unfolding ReadsAs
energy-reads family out n count h = (refl, energy-reads-back family count h)

-- [12]: and so the data sets of a closed period
small : (end : ℕ) (zones : List ℕ) → 1 ≤ end → every (below end) zones ≡ true → (i : ℕ) → get_or zones i 0 < end
unfolding every below
small end [] low h i = omega arith
small end (n ∷ zones) low h zero = ltb-true n end (and_left (ltb n end) (every (below end) zones) h)
small end (n ∷ zones) low h (suc i) = small end zones low (and_right (ltb n end) (every (below end) zones) h) i

module _ (family k : ℕ) where
  kept-reads : (out : Bool) (end : ℕ) (zones : List ℕ) → 1 ≤ end → end ≤ counter_end family → zones_below end zones ≡ true → (n : ℕ)
      → ReadsAs (kept family out k n (kept_in zones n)) (kept_set family out k n (kept_in zones n))
  unfolding ReadsAs zones_below
  kept-reads out end zones some few good n =
      let low = small end zones some (and_right (eqb (length zones) 4) (every (below end) zones) good) (zone_place n) in
      (refl, energy-reads-back family (kept_in zones n) (omega (arith, low, few)))

  four-read : (out : Bool) (end : ℕ) (zones : List ℕ) → 1 ≤ end → end ≤ counter_end family → zones_below end zones ≡ true
      → Recites (kept_sets family out k zones) (kept_say family out k zones)
  unfolding kept_sets kept_say
  four-read out end zones some few good =
      let one = kept-reads out end zones some few good in
      and_then _ _ _ _ (one 1) (and_then _ _ _ _ (one 2) (and_then _ _ _ _ (one 3) (and_then _ _ _ _ (one 4) and_none)))

  module _ (p : Period) (good : period_good family p ≡ true) where
    closed-reads : ReadsAs (closed k p.closed) (closed_set k p.closed)
    unfolding ReadsAs period_good
    closed-reads = (refl, stamp-reads-back p.closed (and_left (real_stamp p.closed) (both_below (counter_end family) (export_end family) p) good))

    both_small : (zones_below (counter_end family) p.zones ≡ true) × (zones_below (export_end family) p.exported ≡ true)
    unfolding period_good both_below
    both_small =
        let both = and_right (real_stamp p.closed) (both_below (counter_end family) (export_end family) p) good in
        let came = zones_below (counter_end family) p.zones in
        let went = zones_below (export_end family) p.exported in
        (and_left came went both, and_right came went both)

    pub period-reads : Recites (period_sets family k p) (period_says family k p)
    unfolding period_sets period_says
    period-reads =
        and_then _ _ _ _ closed-reads
        (both-recite family (kept_sets family false k p.zones) (kept_sets family true k p.exported) (kept_say family false k p.zones) (kept_say family true k p.exported)
        (four-read false (counter_end family) p.zones (counter-end-some family) (omega arith) both_small.0)
        (four-read true (export_end family) p.exported (export-end-some family) (export-end-low family) both_small.1))

-- the total that is shown is the one that is kept, and that is the sum
module _ (family end : ℕ) (out : Bool) (c : Counters) (some : 1 ≤ end) (few : end ≤ counter_end family) (good : counters_good end c ≡ true) where
  pub own-energy-reads : (e : Energy) → ReadsAs (energy family out (energy_no e) (counts end c e)) (energy_set family out (energy_no e) (shown.energy c e))
  unfolding counts shown.energy
  own-energy-reads Total =
      subst (λ (n : ℕ). ReadsAs (energy family out (energy_no Total) n) (energy_set family out (energy_no Total) c.total)) (total-is-sum end c good)
      (energy-reads family out (energy_no Total) c.total (omega (arith, total-small end c some good, few)))
  own-energy-reads (Zone z) = energy-reads family out (energy_no (Zone z)) (counter_of c z.0) (omega (arith, counter-small end c some good z.0, few))

  pub energies-read : Recites (energy_sets family out c) (energies_say family out end c)
  unfolding energy_sets energies_say shown.energy counts energy_no
  energies-read =
      and_then _ _ _ _ (own-energy-reads (zone_energy 1))
      (and_then _ _ _ _ (own-energy-reads (zone_energy 2))
      (and_then _ _ _ _ (own-energy-reads (zone_energy 3))
      (and_then _ _ _ _ (own-energy-reads (zone_energy 4))
      (and_then _ _ _ _ (own-energy-reads Total) and_none))))

module _ (g : Registers) (good : registers_good g ≡ true) where
  pub serial-reads : ReadsAs (serial g.facts.serial) (serial_set g.facts.serial)
  unfolding ReadsAs
  serial-reads = (refl, serial-reads-back g.facts.serial (formed-facts g.facts (formed-registers g good).facts).serial)

  pub account-reads : ReadsAs (account g.account) (account_set g.account)
  unfolding ReadsAs
  account-reads = (refl, account-reads-back g.account (formed-registers g good).account)

  pub date-reads : ReadsAs (date g.clock.date) (date_set g.clock.date)
  unfolding ReadsAs real_clock
  date-reads =
      let d = g.clock.date in
      (refl, date-reads-back d (and_left (real_date d.year d.month d.day) _ (formed-registers g good).clock))

  pub time-reads : ReadsAs (time g.clock.time) (time_set g.clock.time)
  unfolding ReadsAs real_clock
  time-reads =
      let d = g.clock.date in
      let t = g.clock.time in
      (refl, time-reads-back t (and_right (real_date d.year d.month d.day) (real_time t.hour t.minute t.second) (formed-registers g good).clock))

  pub import-reads : (e : Energy) → ReadsAs (energy (family_in g) false (energy_no e) (counts (counter_end (family_in g)) g.counters e)) (energy_set (family_in g) false (energy_no e) (shown.energy g.counters e))
  import-reads = own-energy-reads (family_in g) (counter_end (family_in g)) false g.counters (counter-end-some (family_in g)) (omega arith) (formed-registers g good).counters

  pub export-reads : (e : Energy) → ReadsAs (energy (family_in g) true (energy_no e) (counts (export_end (family_in g)) g.exported e)) (energy_set (family_in g) true (energy_no e) (shown.energy g.exported e))
  export-reads = own-energy-reads (family_in g) (export_end (family_in g)) true g.exported (export-end-some (family_in g)) (export-end-low (family_in g)) (formed-registers g good).exported

  pub directions-read : Recites (direction_sets (family_in g) g.counters g.exported) (directions_say g)
  directions-read =
      both-recite (family_in g) (energy_sets (family_in g) false g.counters) (energy_sets (family_in g) true g.exported)
      (energies_say (family_in g) false (counter_end (family_in g)) g.counters) (energies_say (family_in g) true (export_end (family_in g)) g.exported)
      (energies-read (family_in g) (counter_end (family_in g)) false g.counters (counter-end-some (family_in g)) (omega arith) (formed-registers g good).counters)
      (energies-read (family_in g) (export_end (family_in g)) true g.exported (export-end-some (family_in g)) (export-end-low (family_in g)) (formed-registers g good).exported)

  -- the row of a table that is there
  pub row-good : (n : ℕ) → good_table (tables_in g) n ≡ true → good_row (row_of g.tables n) ≡ true
  unfolding good_row good_table between
  row-good zero h = absurd (omega (arith, leb-true 1 0 (and_left (leb 1 0) (leb 0 (tables_in g)) h)))
  row-good (suc n) h =
      let s = g.tables in
      let rows = (formed-registers g good).tables in
      let high : suc n ≤ tables_in g = leb-true (suc n) (tables_in g) (and_right (leb 1 (suc n)) (leb (suc n) (tables_in g)) h) in
      let room : suc n * row_length ≤ length s = omega (arith, high, tables-most g.facts.edition, rows_long (tables_in g) s rows) in
      and_both (eqb (length (row_of s (suc n))) row_length) (every (between 49 52) (row_of s (suc n)))
      (eq-eqb (length (row_of s (suc n))) row_length (row-long s n room)) (row-zones (tables_in g) s (rows-held (tables_in g) s rows) n high)

  pub row_reads : (n : ℕ) → good_table (tables_in g) n ≡ true → ReadsAs (row n (row_of g.tables n)) (table_set n (row_of g.tables n))
  unfolding ReadsAs
  row_reads n h = (refl, row-reads-back (row_of g.tables n) (row-good n h))
