-- Every block of a well-formed meter, its data block and its answers to R1, reads back to the meter's own registers. Assumes nothing.
use mathlib.Core.Path.{◌≡◌, refl, sym, ap, subst, ◌∙◌}
use mathlib.Core.Bool.{Bool, true, false, cond}
use mathlib.Core.List.{List, [], ◌∷◌, ◌++◌, map, map-append}
use Prim.Native.Nat.{ℕ, zero, suc, ◌+◌, ◌*◌, ◌≤◌}
use native.Mathlib.Nat.{suc-mul}
use native.Mathlib.Omega.{arith}
use borrow.Author.Tests.{leb-true, le-leb}
use lib.Dec.{leb, lit≤}
use lib.ListN.{length, take, length-append, length-map}
use Rattle.line.specs.Runs.{every}
use Rattle.line.proofs.Runs.{and_left, and_right, every_append, every-weaker}
use Rattle.text.specs.Classes.{between}
use Rattle.values.specs.Family.{is_eqm, counter_end, export_end}
use Rattle.values.specs.Registers.{good_table}
use Rattle.frames.specs.Frames.{block_of}
use Rattle.state.specs.declared.Period.{Period}
use Rattle.state.specs.declared.Registers.{Registers}
use Rattle.state.specs.declared.Meter.{Meter}
use Rattle.state.specs.WellFormed.{period_good, every_period, registers_good, well_formed, tables_in, family_in, family_of}
use Rattle.state.specs.Closing.{periods_of}
use Rattle.state.proofs.Parts.{formed, formed-registers}
use Rattle.state.proofs.Archives.{formed-archive}
use Rattle.datasets.specs.Sets.{DataSet, lines_of, table_set}
use Rattle.datasets.proofs.Characters.{Within, within}
use Rattle.replies.specs.declared.Ask.{Ask}
use Rattle.replies.specs.declared.Ask.TheVariants as ask
use Rattle.replies.specs.Shown.{row_of}
use Rattle.replies.specs.Answers.{asked_sets, asked_data, answerable}
use Rattle.replies.specs.Block.{fact_sets, direction_sets, table_sets, block_sets, block_data}
use Rattle.replies.specs.Periods.{period_sets, archive_sets, long_sets, long_data}
use Rattle.replies.proofs.Good.{asked-good, block-good, long-good, asked-shown, block-shown, long-shown, register-ground}
use Rattle.replies.proofs.Periods.{kept-many}
use Rattle.blocks.specs.Parts.{is_content}
use Rattle.reading.specs.Whole.{Found, last_line, read_all}
use Rattle.readback.proofs.Blocks.{block-long, part-of-block, part-is-content, block-strips, block-strips-into}
use Rattle.readback.proofs.Lines.{sets-read-back, answer-reads-back}
use Rattle.deciding.specs.Verdicts.{Read}
use Rattle.deciding.specs.Verdict.{verdict}
use Rattle.meter.specs.Acting.{acted}
use Rattle.promises.proofs.Verdicts.{read-answerable}
use Rattle.recital.specs.Recital.{Register, row, Recites, table_numbers, rows, block_says, period_says, periods_say, long_says, answer_says, ReadsBack, energies_say, in_and_out, directions_say, closed, kept_say, sets_before, sets_kept}
use Rattle.recital.proofs.Registers.{and_then, and_none, and-all, period-reads, import-reads, export-reads, directions-read, serial-reads, account-reads, date-reads, time-reads, row_reads}

-- what a meter shows may stand in a block
content : Within (between 10 126) is_content
unfolding between is_content
content = within (between 10 126) is_content refl (λ c h. omega (arith, leb-true c 126 (and_right (leb 10 c) (leb c 126) h)))

-- so a block of it reads back, where it reads to its end as some registers
reads-back : (c : List ℕ) (xs : List Register) (ds : List DataSet) (at : ℕ) → every (between 10 126) c ≡ true
    → read_all c ≡ record { sets = ds; number = 0; place = at } → Recites ds xs → ReadsBack c xs
reads-back c xs ds at shows read h =
    let k = every-weaker (between 10 126) is_content content c shows in
    record {
      strips = λ out room. block-strips c out k room ∙ ap (λ (n : ℕ). record { number = 1; length = n; place = 0 }) (sym (block-long c));
      stripped = λ out room. block-strips-into c out k room;
      parted = part-of-block c k;
      part = part-is-content c;
      ended = ap (λ (f : Found). f.number) read;
      recited = subst (λ (f : Found). Recites f.sets xs) (sym read) h;
    }

-- the rows of tables that are there
rows-read : (g : Registers) → registers_good g ≡ true → (ns : List ℕ) → every (good_table (tables_in g)) ns ≡ true
    → Recites (map (λ n. table_set n (row_of g.tables n)) ns) (rows g.tables ns)
unfolding every rows
rows-read g good [] h = and_none
rows-read g good (n ∷ ns) h =
    and_then (row n (row_of g.tables n)) (table_set n (row_of g.tables n)) (rows g.tables ns) (map (λ n. table_set n (row_of g.tables n)) ns)
    (row_reads g good n (and_left (good_table (tables_in g) n) (every (good_table (tables_in g)) ns) h)) (rows-read g good ns (and_right (good_table (tables_in g) n) (every (good_table (tables_in g)) ns) h))

tables-are : (tables : List ℕ) (n : ℕ) → table_sets tables n ≡ map (λ n. table_set n (row_of tables n)) (table_numbers n)
unfolding table_sets table_numbers
tables-are tables zero = refl
tables-are tables (suc n) =
    ap (λ (l : List DataSet). l ++ (table_set (suc n) (row_of tables (suc n)) ∷ [])) (tables-are tables n)
    ∙ sym (map-append (λ n. table_set n (row_of tables n)) (table_numbers n) (suc n ∷ []))

-- of so many tables, the first n are there
numbers-good : (tables n : ℕ) → n ≤ tables → every (good_table tables) (table_numbers n) ≡ true
unfolding every table_numbers
numbers-good tables zero h = refl
numbers-good tables (suc n) h =
    every_append (good_table tables) (table_numbers n) (suc n ∷ []) (numbers-good tables n (omega arith))
    (unfold good_table between in (rw (le-leb 1 (suc n) (omega arith), le-leb (suc n) tables h)))

block-recites : (g : Registers) → registers_good g ≡ true → Recites (block_sets (tables_in g) g) (block_says g)
unfolding block_sets fact_sets block_says
block-recites g good =
    let all = rw (← tables-are g.tables (tables_in g)) at (rows-read g good (table_numbers (tables_in g)) (numbers-good (tables_in g) (tables_in g) (omega arith))) in
    and_then _ _ _ _ (serial-reads g good)
    (and_then _ _ _ _ (date-reads g good)
    (and_then _ _ _ _ (time-reads g good)
    (and_then _ _ _ _ (account-reads g good)
    (and-all (direction_sets (family_in g) g.counters g.exported) (table_sets g.tables (tables_in g)) (directions_say g) (rows g.tables (table_numbers (tables_in g)))
    (directions-read g good) all))))

-- [12]: the closed periods
periods-recite : (family k : ℕ) (ps : List Period) → every_period (period_good family) ps ≡ true → Recites (archive_sets family k ps) (periods_say family k ps)
unfolding every_period archive_sets periods_say
periods-recite family k [] h = and_none
periods-recite family k (p ∷ ps) h =
    and-all (period_sets family k p) (archive_sets family (k + 1) ps) (period_says family k p) (periods_say family (k + 1) ps)
    (period-reads family k p (and_left (period_good family p) (every_period (period_good family) ps) h)) (periods-recite family (k + 1) ps (and_right (period_good family p) (every_period (period_good family) ps) h))

long-recites : (g : Registers) → registers_good g ≡ true → Recites (long_sets (tables_in g) g) (long_says g)
unfolding long_sets long_says periods_of
long-recites g good =
    and-all (block_sets (tables_in g) g) (archive_sets (family_in g) 1 (periods_of g.archive)) (block_says g) (periods_say (family_in g) 1 (periods_of g.archive))
    (block-recites g good) (periods-recite (family_in g) 1 (periods_of g.archive) (formed-archive (family_in g) g.archive (formed-registers g good).archive).good)

answer-recites : (g : Registers) → registers_good g ≡ true → (a : Ask) → answerable (tables_in g) a ≡ true → Recites (asked_sets g a) (answer_says g a)
unfolding asked_sets answer_says answerable
answer-recites g good ask.Clock h = and_then _ _ _ _ (time-reads g good) (and_then _ _ _ _ (date-reads g good) and_none)
answer-recites g good ask.Serial h = and_then _ _ _ _ (serial-reads g good) and_none
answer-recites g good ask.Account h = and_then _ _ _ _ (account-reads g good) and_none
answer-recites g good (ask.Energy e) h = and_then _ _ _ _ (import-reads g good e) and_none
answer-recites g good (ask.Export e) h = and_then _ _ _ _ (export-reads g good e) and_none
answer-recites g good (ask.Table t) h = and_then _ _ _ _ (row_reads g good t.0 h) and_none

-- the data block reads to its end as its own sets
pub block_read : (g : Registers) → registers_good g ≡ true → read_all (block_data (tables_in g) g) ≡ record { sets = block_sets (tables_in g) g; number = 0; place = length (lines_of (block_sets (tables_in g) g)) }
unfolding block_data last_line
block_read g good = sets-read-back (block_sets (tables_in g) g) (block-good g good)

long-read : (g : Registers) → registers_good g ≡ true → read_all (long_data (tables_in g) g) ≡ record { sets = long_sets (tables_in g) g; number = 0; place = length (lines_of (long_sets (tables_in g) g)) }
unfolding long_data last_line
long-read g good = sets-read-back (long_sets (tables_in g) g) (long-good g good)

module _ (m : Meter) (f : well_formed m ≡ true) where
  -- the data block: all its data sets in order
  pub block-reads-back : ReadsBack (block_data (tables_in m.registers) m.registers) (block_says m.registers)
  block-reads-back =
      let g = m.registers in
      let good = (formed m f).registers in
      reads-back (block_data (tables_in g) g) (block_says g) (block_sets (tables_in g) g) (length (lines_of (block_sets (tables_in g) g))) (block-shown g good) (block_read g good)
      (block-recites g good)

  -- [12]: the block with the closed periods: those, and every period's time and counters, in order
  pub long-reads-back : ReadsBack (long_data (tables_in m.registers) m.registers) (long_says m.registers)
  long-reads-back =
      let g = m.registers in
      let good = (formed m f).registers in
      reads-back (long_data (tables_in g) g) (long_says g) (long_sets (tables_in g) g) (length (lines_of (long_sets (tables_in g) g))) (long-shown g good) (long-read g good)
      (long-recites g good)

  -- and every answer to R1
  pub answer-block-reads-back : (a : Ask) → answerable (tables_in m.registers) a ≡ true → ReadsBack (asked_data m.registers a) (answer_says m.registers a)
  unfolding asked_data
  answer-block-reads-back a h =
      let g = m.registers in
      let good = (formed m f).registers in
      reads-back (asked_data g a) (answer_says g a) (asked_sets g a) (length (lines_of (asked_sets g a))) (asked-shown g a good h) (answer-reads-back (asked_sets g a) (asked-good g a good h))
      (answer-recites g good a h)

  -- so whatever frame a meter answers with data, the block that it sends reads back
  pub every-answer-reads-back : (h : List ℕ) (mark : Bool) (sum : ℕ) (a : Ask) → verdict (tables_in m.registers) (family_of m) m.mode h mark sum ≡ Read a
      → ((acted m (verdict (tables_in m.registers) (family_of m) m.mode h mark sum)).reply ≡ block_of (asked_data m.registers a)) × ReadsBack (asked_data m.registers a) (answer_says m.registers a)
  unfolding acted
  every-answer-reads-back h mark sum a e = (rw e, answer-block-reads-back a (read-answerable (tables_in m.registers) (family_of m) m.mode h mark sum a e))

numbers-many : (n : ℕ) → length (table_numbers n) ≡ n
unfolding table_numbers
numbers-many zero = refl
numbers-many (suc n) = length-append (table_numbers n) (suc n ∷ []) ∙ omega (arith, numbers-many n)

-- 33 of them, or 34; five more where what went out is counted
both-many : (b : Bool) (xs ys : List Register) → length (xs ++ cond b ys []) ≡ length xs + cond b (length ys) 0
both-many true xs ys = length-append xs ys
both-many false xs ys = length-append xs []

pub sets-and-tables : (g : Registers) → length (block_says g) ≡ sets_before (family_in g) + tables_in g
unfolding block_says rows in_and_out energies_say sets_before
sets-and-tables g =
    let came = energies_say (family_in g) false (counter_end (family_in g)) g.counters in
    let went = energies_say (family_in g) true (export_end (family_in g)) g.exported in
    omega (
      arith,
      length-append (directions_say g) (rows g.tables (table_numbers (tables_in g))),
      both-many (is_eqm (family_in g)) came went,
      fourteen (is_eqm (family_in g)),
      length-map (table_numbers (tables_in g)) (λ n. row n (row_of g.tables n)),
      numbers-many (tables_in g),
    )
  where
    fourteen : (b : Bool) → 9 + cond b 5 0 ≡ cond b 14 9
    fourteen true = refl
    fourteen false = refl

-- and for each closed period its time with four counters, or with eight
period-many : (family k : ℕ) (p : Period) → length (period_says family k p) ≡ sets_kept family
unfolding period_says in_and_out kept_say sets_kept
period-many family k p = by (is_eqm family)
  where
    by : (b : Bool) → length (closed k p.closed ∷ (kept_say family false k p.zones ++ cond b (kept_say family true k p.exported) [])) ≡ cond b 9 5
    by true = refl
    by false = refl

periods-many : (family k : ℕ) (ps : List Period) → length (periods_say family k ps) ≡ length ps * sets_kept family
unfolding periods_say
periods-many family k [] = omega arith
periods-many family k (p ∷ ps) =
    length-append (period_says family k p) (periods_say family (k + 1) ps)
    ∙ (rw (period-many family k p, periods-many family (k + 1) ps, suc-mul (length ps) (sets_kept family)) (omega arith))

pub sets-and-tables-and-periods : (g : Registers) → registers_good g ≡ true
    → length (long_says g) ≡ sets_before (family_in g) + tables_in g + g.archive.count * sets_kept (family_in g)
unfolding long_says
sets-and-tables-and-periods g good =
    length-append (block_says g) (periods_say (family_in g) 1 (periods_of g.archive))
    ∙ (rw (sets-and-tables g, periods-many (family_in g) 1 (periods_of g.archive), kept-many (tables_in g) g (register-ground g good).lengths))
