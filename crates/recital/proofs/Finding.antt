-- In the block of any well-formed meter the total and the last row are found where they stand, and read back. Assumes nothing.
use mathlib.Core.Path.{◌≡◌, refl, sym, ap, subst, ◌∙◌}
use mathlib.Core.Bool.{Bool, true, false, cond}
use mathlib.Core.List.{List}
use Prim.Native.Nat.{ℕ, ◌+◌}
use native.Mathlib.Omega.{arith}
use borrow.Author.Tests.{le-leb}
use lib.Dec.{eqb}
use Rattle.text.specs.Classes.{matching, same_text, between}
use Rattle.text.specs.DataSet.{DataSet}
use Rattle.text.specs.Decimal.{decimal}
use Rattle.text.specs.Layout.{layout_text}
use Rattle.values.specs.Edition.{tables_of}
use Rattle.values.specs.Family.{is_eqm, import_name, counter_end}
use Rattle.values.specs.Registers.{good_table}
use Rattle.values.proofs.Editions.{tables-least}
use Rattle.values.specs.Texts.{table_text}
use Rattle.state.specs.declared.Registers.{Registers}
use Rattle.state.specs.declared.Meter.{Meter}
use Rattle.state.specs.WellFormed.{tables_in, family_in, total, registers_good, well_formed}
use Rattle.values.specs.declared.Energy.TheVariants.{Total}
use Rattle.values.specs.Registers.{energy_no}
use Rattle.state.proofs.Parts.{formed}
use Rattle.replies.specs.Shown.{row_of}
use Rattle.replies.specs.Shown as shown
use Rattle.replies.specs.Block.{fact_sets, energy_sets, in_and_out, table_sets, block_sets, block_data}
use Rattle.datasets.specs.Sets.{energy_name, energy_set, table_set}
use Rattle.reading.specs.Whole.{Found, read_all}
use Rattle.finding.specs.Finding.{among, position, first_with}
use Rattle.finding.proofs.Promised.{count-is, finds-first}
use Rattle.recital.specs.Recital.{Register, energy, row, ReadsAs, counts, sets_before}
use Rattle.recital.specs.Finding.{FoundAs, total_address, row_address, FoundInBlock}
use Rattle.recital.proofs.Recital.{block_read}
use Rattle.recital.proofs.Registers.{import-reads, row_reads}

-- the first of the sets that were read, where it reads as a register, is found as that register
found_as : (c a : List ℕ) (ds : List DataSet) (n : ℕ) (x : Register) → (read_all c).sets ≡ ds → among a ds ≡ true → position a ds ≡ n → ReadsAs x (first_with a ds) → FoundAs c a n x
found_as c a ds n x read h p reads =
    let f = finds-first c a (rw read h) in
    record { number = f.0; count = count-is c a ∙ rw read p; reads = rw (f.1, read) reads }

-- 24 tables or 25 of either family, by computing
total-by : (two old : Bool) (g : Registers) → eqb (family_in g) 0 ≡ old
    → (among (total_address (family_in g)) (block_sets (cond two 25 24) g) ≡ true) × (position (total_address (family_in g)) (block_sets (cond two 25 24) g) ≡ 9)
unfolding among position total_address import_name energy_name is_eqm same_text matching decimal block_sets fact_sets in_and_out energy_sets
total-by true true g e = rw e (refl, refl)
total-by true false g e = rw e (refl, refl)
total-by false true g e = rw e (refl, refl)
total-by false false g e = rw e (refl, refl)

last-by : (two old : Bool) (g : Registers) → eqb (family_in g) 0 ≡ old
    → (among (row_address (cond two 25 24)) (block_sets (cond two 25 24) g) ≡ true)
    × (position (row_address (cond two 25 24)) (block_sets (cond two 25 24) g) ≡ sets_before (family_in g) + cond two 25 24)
unfolding among position row_address import_name energy_name is_eqm sets_before same_text matching decimal layout_text table_text block_sets fact_sets in_and_out energy_sets table_sets
last-by true true g e = rw e (refl, refl)
last-by true false g e = rw e (refl, refl)
last-by false true g e = rw e (refl, refl)
last-by false false g e = rw e (refl, refl)

first-at : (two old : Bool) (g : Registers) → eqb (family_in g) 0 ≡ old
    → first_with (row_address (cond two 25 24)) (block_sets (cond two 25 24) g) ≡ table_set (cond two 25 24) (row_of g.tables (cond two 25 24))
unfolding first_with row_address import_name energy_name is_eqm same_text matching decimal layout_text table_text block_sets fact_sets in_and_out energy_sets table_sets
first-at true true g e = rw e refl
first-at true false g e = rw e refl
first-at false true g e = rw e refl
first-at false false g e = rw e refl

first_by : (two old : Bool) (g : Registers) (n : ℕ) → eqb (family_in g) 0 ≡ old → cond two 25 24 ≡ n → first_with (row_address n) (block_sets n g) ≡ table_set n (row_of g.tables n)
first_by two old g n e f = subst (λ k. first_with (row_address k) (block_sets k g) ≡ table_set k (row_of g.tables k)) f (first-at two old g e)

total_first : (old : Bool) (g : Registers) (tables : ℕ) → eqb (family_in g) 0 ≡ old
    → first_with (total_address (family_in g)) (block_sets tables g) ≡ energy_set (family_in g) false 0 g.counters.total
unfolding first_with total_address import_name energy_name same_text matching decimal block_sets fact_sets in_and_out energy_sets
total_first true g tables e = rw e
total_first false g tables e = rw e

module _ (g : Registers) (good : registers_good g ≡ true) where
  total-there : (among (total_address (family_in g)) (block_sets (tables_in g) g) ≡ true) × (position (total_address (family_in g)) (block_sets (tables_in g) g) ≡ 9)
  unfolding tables_of
  total-there = total-by (eqb g.facts.edition 2) (eqb (family_in g) 0) g refl

  total-reads : ReadsAs (energy (family_in g) false 0 (total (counter_end (family_in g)) g.counters)) (first_with (total_address (family_in g)) (block_sets (tables_in g) g))
  unfolding shown.energy counts energy_no
  total-reads = rw (total_first (eqb (family_in g) 0) g (tables_in g) refl) (import-reads g good Total)

  last-there : (among (row_address (tables_in g)) (block_sets (tables_in g) g) ≡ true)
      × (position (row_address (tables_in g)) (block_sets (tables_in g) g) ≡ sets_before (family_in g) + tables_in g)
  unfolding tables_of
  last-there = last-by (eqb g.facts.edition 2) (eqb (family_in g) 0) g refl

  last-good : good_table (tables_in g) (tables_in g) ≡ true
  unfolding good_table between
  last-good = rw (le-leb 1 (tables_in g) (omega (arith, tables-least g.facts.edition)), le-leb (tables_in g) (tables_in g) (omega arith))

  last-reads : ReadsAs (row (tables_in g) (row_of g.tables (tables_in g))) (first_with (row_address (tables_in g)) (block_sets (tables_in g) g))
  last-reads =
      rw (first_by (eqb g.facts.edition 2) (eqb (family_in g) 0) g (tables_in g) refl (unfold tables_of in refl)) (row_reads g good (tables_in g) last-good)

pub found-in-block : (m : Meter) → well_formed m ≡ true → FoundInBlock m.registers
found-in-block m f =
    let g = m.registers in
    let good = (formed m f).registers in
    let n = tables_in g in
    let read : (read_all (block_data n g)).sets ≡ block_sets n g = ap (λ (r : Found). r.sets) (block_read g good) in
    record {
      whole = found_as (block_data n g) (total_address (family_in g)) (block_sets n g) 9 (energy (family_in g) false 0 (total (counter_end (family_in g)) g.counters)) read (total-there g good).0 (total-there g good).1 (total-reads g good);
      last_row = found_as (block_data n g) (row_address n) (block_sets n g) (sets_before (family_in g) + n) (row n (row_of g.tables n)) read (last-there g good).0 (last-there g good).1 (last-reads g good);
    }
