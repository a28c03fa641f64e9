-- How long each answer is. Sums over the lines. Assumes nothing.
use mathlib.Core.Path.{◌≡◌, refl, ap, ◌∙◌}
use mathlib.Core.Bool.{Bool, true, false, cond, not}
use mathlib.Core.List.{List, [], ◌∷◌, ◌++◌, append-nil}
use Prim.Native.Nat.{ℕ, zero, suc, ◌+◌, ◌*◌, ◌≤◌}
use native.Mathlib.Omega.{arith}
use lib.Dec.{eqb}
use lib.ListN.{length, take, drop, length-append, length-drop}
use lib.Seq.{length-take-le}
use Rattle.line.specs.Quoted.{chars}
use Rattle.clock.specs.declared.Date.{Date}
use Rattle.clock.specs.declared.Time.{Time}
use Rattle.clock.specs.declared.Clock.{Clock}
use Rattle.values.specs.declared.TableNo.{TableNo}
use Rattle.values.specs.Family.{is_eqm, counter_digits, import_name, export_name}
use Rattle.values.specs.Registers.{energy_no}
use Rattle.values.proofs.Families.{shown}
use Rattle.state.specs.declared.Counters.{Counters}
use Rattle.state.specs.declared.Registers.{Registers}
use Rattle.state.specs.Sizes.{row_length}
use Rattle.state.specs.Setting.{row_start, counter_of}
use Rattle.state.specs.WellFormed.{family_in}
use Rattle.frames.specs.Frames.{block_of}
use Rattle.frames.proofs.Sealing.{block-length}
use Rattle.text.specs.Writing.{stored}
use Rattle.text.proofs.Writing.{and_then}
use Rattle.datasets.proofs.Joined.{Lines, single, joined}
use Rattle.datasets.specs.Sets.{DataSet, lines_of, line_of, table_set, time_set, date_set, serial_set, account_set, energy_name, energy_set}
use Rattle.datasets.proofs.Lengths.{lines-append, lines_cons, time-line, date-line, serial-line, account-line, name-long, energy-line, energy-most, table-line}
use Rattle.replies.specs.declared.Ask.{Ask}
use Rattle.replies.specs.declared.Ask.TheVariants as ask
use Rattle.replies.specs.Shown.{Lengths, row_of, energy}
use Rattle.replies.specs.Answers.{asked_sets, asked_data}
use Rattle.replies.specs.Block.{fact_sets, energy_sets, in_and_out, direction_sets, directions_long, table_sets, block_sets, block_data}

pub take_short : {A : Type 0} (k : ℕ) (s : List A) → length (take k s) ≤ k
take_short zero s = omega arith
take_short (suc k) [] = omega arith
take_short (suc k) (x ∷ s) = omega (arith, take_short k s)

pub row-short : (rows : List ℕ) (n : ℕ) → length (row_of rows n) ≤ row_length
unfolding row_of
row-short rows n = take_short row_length (drop (row_start n) rows)

-- the row of a table that is there
pub row-long : (rows : List ℕ) (n : ℕ) → suc n * row_length ≤ length rows → length (row_of rows (suc n)) ≡ row_length
unfolding row_of
row-long rows n h = length-take-le row_length (drop (row_start (suc n)) rows) (omega (arith, length-drop (row_start (suc n)) rows))

pub facts-long : (serial : List ℕ) (clock : Clock) (account : List ℕ) → length serial ≡ 10 → length account ≡ 10
    → length (lines_of (fact_sets serial clock account)) ≡ 73
unfolding fact_sets lines_of
facts-long serial clock account s a =
    rw (
      lines_cons (serial_set serial) (date_set clock.date ∷ time_set clock.time ∷ account_set account ∷ []),
      lines_cons (date_set clock.date) (time_set clock.time ∷ account_set account ∷ []),
      lines_cons (time_set clock.time) (account_set account ∷ []),
      lines_cons (account_set account) [],
      serial-line serial s,
      date-line clock.date,
      time-line clock.time,
      account-line account a,
    )

pub energies-long : (family : ℕ) (out : Bool) (c : Counters)
    → length (lines_of (energy_sets family out c)) ≡ 5 * (length (energy_name family out) + (counter_digits family + 10))
unfolding energy_sets lines_of
energies-long family out c =
    let line : ℕ → ℕ → DataSet = energy_set family out in
    rw (
      lines_cons (line 1 (counter_of c 1)) (line 2 (counter_of c 2) ∷ line 3 (counter_of c 3) ∷ line 4 (counter_of c 4) ∷ line 0 c.total ∷ []),
      lines_cons (line 2 (counter_of c 2)) (line 3 (counter_of c 3) ∷ line 4 (counter_of c 4) ∷ line 0 c.total ∷ []),
      lines_cons (line 3 (counter_of c 3)) (line 4 (counter_of c 4) ∷ line 0 c.total ∷ []),
      lines_cons (line 4 (counter_of c 4)) (line 0 c.total ∷ []),
      lines_cons (line 0 c.total) [],
      energy-line family out 1 (counter_of c 1),
      energy-line family out 2 (counter_of c 2),
      energy-line family out 3 (counter_of c 3),
      energy-line family out 4 (counter_of c 4),
      energy-line family out 0 c.total,
    )
    (omega arith)

pub energies-most : (family : ℕ) (out : Bool) (c : Counters) → length (lines_of (energy_sets family out c)) ≤ 120
energies-most family out c = omega (arith, energies-long family out c, name-long family out, (shown family).digits-most)

-- both directions
pub both_long : (family : ℕ) (came went : List DataSet) → length (lines_of (in_and_out family came went)) ≡ length (lines_of came) + cond (is_eqm family) (length (lines_of went)) 0
unfolding in_and_out
both_long family came went =
    rw (lines-append came (cond (is_eqm family) went []), length-append (lines_of came) (lines_of (cond (is_eqm family) went [])))
    (ap (◌+◌ (length (lines_of came))) (by (is_eqm family)))
  where
    by : (b : Bool) → length (lines_of (cond b went [])) ≡ cond b (length (lines_of went)) 0
    by true = refl
    by false = unfold lines_of in refl

-- a name and the digits, in each family
pub came-long : (family : ℕ) → length (energy_name family false) + counter_digits family ≡ cond (eqb family 0) 14 12
unfolding energy_name import_name counter_digits
came-long family = by (eqb family 0)
  where
    by : (b : Bool) → length (cond b (chars "15.8.") (chars "1.8.")) + cond b 9 8 ≡ cond b 14 12
    by true = refl
    by false = refl

pub went-long : (family : ℕ) → length (energy_name family true) + counter_digits family ≡ cond (eqb family 0) 13 12
unfolding energy_name counter_digits
went-long family = by (eqb family 0)
  where
    by : (b : Bool) → length export_name + cond b 9 8 ≡ cond b 13 12
    by true = refl
    by false = refl

pub directions-long : (family : ℕ) (counters exported : Counters) → length (lines_of (direction_sets family counters exported)) ≡ directions_long family
unfolding directions_long is_eqm
directions-long family counters exported =
    both_long family (energy_sets family false counters) (energy_sets family true exported)
    ∙ by (eqb family 0) _ _ (energies-long family false counters ∙ omega (arith, came-long family)) (energies-long family true exported ∙ omega (arith, went-long family))
  where
    by : (b : Bool) (x y : ℕ) → x ≡ 50 + 5 * cond b 14 12 → y ≡ 50 + 5 * cond b 13 12 → x + cond (not b) y 0 ≡ cond b 120 220
    by true x y h k = omega (arith, h)
    by false x y h k = omega (arith, h, k)

pub directions-most : (family : ℕ) → directions_long family ≤ 220
unfolding directions_long
directions-most family = by (eqb family 0)
  where
    by : (b : Bool) → cond b 120 220 ≤ 220
    by true = omega arith
    by false = omega arith

pub tables-long : (rows : List ℕ) (n : ℕ) → n * row_length ≤ length rows → length (lines_of (table_sets rows n)) ≡ n * 36
unfolding table_sets lines_of
tables-long rows zero h = refl
tables-long rows (suc n) h =
    let last = table_set (suc n) (row_of rows (suc n)) in
    rw (lines-append (table_sets rows n) (last ∷ []), length-append (lines_of (table_sets rows n)) (lines_of (last ∷ [])), tables-long rows n (omega arith))
    (omega (arith, lines_cons last [], table-line (suc n) (row_of rows (suc n)), row-long rows n h))

-- 73 characters of facts, the energies, 36 for each table, 3 at the end
pub sets-long : (tables : ℕ) (g : Registers) → Lengths tables g → length (lines_of (block_sets tables g)) ≡ 73 + directions_long (family_in g) + tables * 36
unfolding block_sets
sets-long tables g h =
    let f = fact_sets g.facts.serial g.clock g.account in
    let e = direction_sets (family_in g) g.counters g.exported in
    let t = table_sets g.tables tables in
    let b : length (lines_of (f ++ (e ++ t))) ≡ length (lines_of f) + (length (lines_of e) + length (lines_of t)) =
    rw (lines-append f (e ++ t), lines-append e t, length-append (lines_of f) (lines_of e ++ lines_of t), length-append (lines_of e) (lines_of t)) in
    omega (
      arith,
      b,
      facts-long g.facts.serial g.clock g.account h.serial h.account,
      directions-long (family_in g) g.counters g.exported,
      tables-long g.tables tables (omega (arith, h.rows, h.few)),
    )

-- at most so many, however long the rows are
tables-most : (rows : List ℕ) (n : ℕ) → length (lines_of (table_sets rows n)) ≤ n * 36
unfolding table_sets lines_of
tables-most rows zero = omega arith
tables-most rows (suc n) =
    let last = table_set (suc n) (row_of rows (suc n)) in
    rw (lines-append (table_sets rows n) (last ∷ []), length-append (lines_of (table_sets rows n)) (lines_of (last ∷ [])))
    (omega (arith, tables-most rows n, lines_cons last [], table-line (suc n) (row_of rows (suc n)), row-short rows (suc n)))

pub sets-most : (tables : ℕ) (g : Registers) → length g.facts.serial ≡ 10 → length g.account ≡ 10 → length (lines_of (block_sets tables g)) ≤ 293 + tables * 36
unfolding block_sets
sets-most tables g serial account =
    let f = fact_sets g.facts.serial g.clock g.account in
    let e = direction_sets (family_in g) g.counters g.exported in
    let t = table_sets g.tables tables in
    rw (lines-append f (e ++ t), lines-append e t, length-append (lines_of f) (lines_of e ++ lines_of t), length-append (lines_of e) (lines_of t))
    (omega (arith, facts-long g.facts.serial g.clock g.account serial account, directions-long (family_in g) g.counters g.exported, directions-most (family_in g), tables-most g.tables tables))

pub content-most : (tables : ℕ) (g : Registers) → length g.facts.serial ≡ 10 → length g.account ≡ 10 → length (block_data tables g) ≤ 296 + tables * 36
unfolding block_data
content-most tables g serial account =
    rw (length-append (lines_of (block_sets tables g)) (33 ∷ 13 ∷ 10 ∷ [])) (omega (arith, sets-most tables g serial account))

pub content-long : (tables : ℕ) (g : Registers) → Lengths tables g → length (block_data tables g) ≡ 76 + directions_long (family_in g) + tables * 36
unfolding block_data
content-long tables g h =
    length-append (lines_of (block_sets tables g)) (33 ∷ 13 ∷ 10 ∷ []) ∙ omega (arith, sets-long tables g h)

-- of 24 tables it is 1,063 characters, or 1,163 of an EQM meter; of 25 tables 36 more
pub block-long : (tables : ℕ) (g : Registers) → Lengths tables g → length (block_of (block_data tables g)) ≡ 79 + directions_long (family_in g) + tables * 36
block-long tables g h = block-length (block_data tables g) ∙ omega (arith, content-long tables g h)

one-long : (s : DataSet) → length (lines_of (s ∷ [])) ≡ length (line_of s)
unfolding lines_of
one-long s = lines_cons s [] ∙ omega arith

pub clock-long : (t : Time) (d : Date) → length (lines_of (time_set t ∷ date_set d ∷ [])) ≡ 34
clock-long t d = lines_cons (time_set t) (date_set d ∷ []) ∙ omega (arith, one-long (date_set d), time-line t, date-line d)

energy-short : (family : ℕ) (out : Bool) (n count : ℕ) → length (lines_of (energy_set family out n count ∷ [])) ≤ 36
energy-short family out n count = omega (arith, one-long (energy_set family out n count), energy-most family out n count)

-- an answer to R1 has at most 36 characters of data
pub asked-short : (g : Registers) (a : Ask) → length g.facts.serial ≡ 10 → length g.account ≡ 10 → length (asked_data g a) ≤ 36
unfolding asked_data asked_sets lines_of
asked-short g ask.Clock serial account = omega (arith, clock-long g.clock.time g.clock.date)
asked-short g ask.Serial serial account = omega (arith, one-long (serial_set g.facts.serial), serial-line g.facts.serial serial)
asked-short g ask.Account serial account = omega (arith, one-long (account_set g.account), account-line g.account account)
asked-short g (ask.Energy e) serial account = energy-short (family_in g) false (energy_no e) (energy g.counters e)
asked-short g (ask.Export e) serial account = energy-short (family_in g) true (energy_no e) (energy g.exported e)
asked-short g (ask.Table t) serial account =
    let row = row_of g.tables t.0 in
    omega (arith, one-long (table_set t.0 row), table-line t.0 row, row-short g.tables t.0)

-- lines that are the data asked for
pub asked : (g : Registers) (a : Ask) (sets : List DataSet) (buf : List ℕ) (at place : ℕ) (after : List ℕ) → asked_sets g a ≡ sets
    → Lines buf at sets place after → (place ≡ at + length (asked_data g a)) × (after ≡ stored buf at (asked_data g a))
unfolding asked_data
asked g a sets buf at place after e l = rw e (l.next, l.held)

module _ (g : Registers) (a : Ask) (buf : List ℕ) (at place : ℕ) (after : List ℕ) where
  pub asked-energy : (out : Bool) (n count shown : ℕ) → asked_sets g a ≡ energy_set (family_in g) out n shown ∷ [] → count ≡ shown
      → place ≡ at + length (line_of (energy_set (family_in g) out n count))
      → after ≡ stored buf at (line_of (energy_set (family_in g) out n count)) → (place ≡ at + length (asked_data g a)) × (after ≡ stored buf at (asked_data g a))
  asked-energy out n count shown told is p q =
      let s = energy_set (family_in g) out n shown in
      asked g a (s ∷ []) buf at place after told (single s (length (line_of s)) buf at place after refl (rw is at p) (rw is at q))

  pub asked-table : (t : TableNo) → a ≡ ask.Table t → place ≡ at + 12 + length (row_of g.tables t.0)
      → after ≡ stored buf at (line_of (table_set t.0 (row_of g.tables t.0))) → (place ≡ at + length (asked_data g a)) × (after ≡ stored buf at (asked_data g a))
  unfolding asked_sets
  asked-table t told p q =
      let row = row_of g.tables t.0 in
      let s = table_set t.0 row in
      asked g a (s ∷ []) buf at place after (ap (asked_sets g) told) (single s (12 + length row) buf at place after (table-line t.0 row) (omega arith) q)

-- lines of what came in, and behind them those of what went out
pub both-put : (family : ℕ) (came went : List DataSet) (buf : List ℕ) (at p1 : ℕ) (b1 : List ℕ) (p2 : ℕ) (b2 : List ℕ) → is_eqm family ≡ true
    → Lines buf at came p1 b1 → Lines b1 p1 went p2 b2 → Lines buf at (in_and_out family came went) p2 b2
unfolding in_and_out
both-put family came went buf at p1 b1 p2 b2 eqm first second = rw eqm (joined came went buf at p1 b1 p2 b2 first second)

pub came-put : (family : ℕ) (came went : List DataSet) (buf : List ℕ) (at p1 : ℕ) (b1 : List ℕ) → is_eqm family ≡ false
    → Lines buf at came p1 b1 → Lines buf at (in_and_out family came went) p1 b1
unfolding in_and_out
came-put family came went buf at p1 b1 old first = rw (old, append-nil came) first

-- facts, energies and tables, put in one after the other, are the block's lines
pub all-put : (tables : ℕ) (g : Registers) (buf : List ℕ) (at : ℕ) (b1 : List ℕ) (p1 : ℕ) (b2 : List ℕ) (p2 : ℕ) (b3 : List ℕ) (p3 : ℕ)
    → Lengths tables g → p1 ≡ at + 73 → b1 ≡ stored buf at (lines_of (fact_sets g.facts.serial g.clock g.account))
    → Lines b1 p1 (direction_sets (family_in g) g.counters g.exported) p2 b2
    → p3 ≡ p2 + tables * 36 → b3 ≡ stored b2 p2 (lines_of (table_sets g.tables tables))
    → Lines buf at (block_sets tables g) p3 b3
unfolding block_sets
all-put tables g buf at b1 p1 b2 p2 b3 p3 h q1 e1 energies q3 e3 =
    let f = fact_sets g.facts.serial g.clock g.account in
    let e = direction_sets (family_in g) g.counters g.exported in
    let t = table_sets g.tables tables in
    let facts : Lines buf at f p1 b1 =
    record { next = omega (arith, facts-long g.facts.serial g.clock g.account h.serial h.account); held = e1 } in
    let rows : Lines b2 p2 t p3 b3 =
    record { next = omega (arith, tables-long g.tables tables (omega (arith, h.rows, h.few))); held = e3 } in
    joined f (e ++ t) buf at p1 b1 p3 b3 facts (joined e t b1 p1 p2 b2 p3 b3 energies rows)

-- lines and the end of them
pub ended : (sets : List DataSet) (buf : List ℕ) (at place : ℕ) (mid after : List ℕ) → Lines buf at sets place mid
    → after ≡ stored mid place (33 ∷ 13 ∷ 10 ∷ []) → after ≡ stored buf at (lines_of sets ++ (33 ∷ 13 ∷ 10 ∷ []))
ended sets buf at place mid after l e = and_then buf at (lines_of sets) mid place (33 ∷ 13 ∷ 10 ∷ []) after l.held l.next e

-- so every answer to R1 fits, with STX, ETX and BCC
pub asked-fits : (tables : ℕ) (g : Registers) (a : Ask) → Lengths tables g → length (block_of (asked_data g a)) ≤ 39
asked-fits tables g a h = rw (block-length (asked_data g a)) (omega (arith, asked-short g a h.serial h.account))
