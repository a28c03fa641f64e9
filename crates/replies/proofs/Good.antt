-- Of well-formed registers: how long they are, that every answer is good data sets, and which characters it holds.
-- Each line is good by its kind (`datasets`), and a row of the tables is a part of them. Assumes nothing.
use mathlib.Core.Path.{◌≡◌, refl, ◌∙◌}
use mathlib.Core.Bool.{Bool, true, false, cond, not}
use mathlib.Core.List.{List, [], ◌∷◌, ◌++◌}
use Prim.Native.Nat.{ℕ, zero, suc, ◌+◌, ◌*◌, ◌<◌, ◌≤◌}
use native.Mathlib.Omega.{arith}
use borrow.Author.Tests.{eqb-true, leb-true, le-leb}
use lib.Dec.{eqb, leb}
use lib.ListN.{length, take, drop, length-append}
use lib.Seq.{take-take}
use Rattle.line.specs.Quoted.{chars}
use Rattle.line.specs.Runs.{every}
use Rattle.line.specs.Characters.{seven}
use Rattle.line.specs.Checksum.{bcc_of}
use Rattle.line.proofs.Runs.{and_left, and_right, every_append, every-weaker, every_take, every_drop}
use Rattle.line.proofs.Xor.{bcc-lt}
use Rattle.text.specs.Classes.{between, is_digit}
use Rattle.values.specs.Registers.{good_digits, good_account, good_table, is_account_character, energy_no}
use Rattle.values.specs.Family.{is_eqm}
use Rattle.values.proofs.Editions.{tables-most}
use Rattle.frames.specs.Frames.{closed, frame_of, block_of}
use Rattle.frames.specs.Commands.{bracketed}
use Rattle.state.specs.Sizes.{row_length}
use Rattle.state.specs.Setting.{row_start, counter_of}
use Rattle.state.specs.WellFormed.{tables_in, family_in, registers_good, well_formed}
use Rattle.state.proofs.Parts.{formed, formed-registers, formed-facts, rows_long, rows-held}
use Rattle.state.proofs.Archives.{formed-archive}
use Rattle.state.specs.declared.Meter.{Meter}
use Rattle.state.specs.declared.Period.{Period}
use Rattle.state.specs.declared.Counters.{Counters}
use Rattle.state.specs.declared.Registers.{Registers}
use Rattle.state.specs.Closing.{periods_of}
use Rattle.datasets.specs.Sets.{DataSet, lines_of}
use Rattle.datasets.specs.Good.{good_sets}
use Rattle.datasets.proofs.Characters.{Within, within}
use Rattle.datasets.proofs.Good.{time-good, date-good, serial-good, account-good, energy-good, table-good, closed-good, kept-good, good-append, lines-shown}
use Rattle.replies.specs.declared.Ask.{Ask}
use Rattle.replies.specs.declared.Ask.TheVariants as ask
use Rattle.replies.specs.Shown.{Lengths, row_of, energy}
use Rattle.replies.specs.Answers.{asked_sets, asked_data, answerable}
use Rattle.replies.specs.Block.{fact_sets, energy_sets, in_and_out, table_sets, block_sets, block_data}
use Rattle.replies.specs.Periods.{kept_in, kept_sets, period_sets, archive_sets, long_sets, long_data}
use Rattle.replies.specs.Fixed.{identification, password_ask, accepted, refused}
use Rattle.replies.proofs.Sizes.{row-short}

-- what the lines of well-formed registers lean on
pub record Ground (g : Registers) : Type 0 where
  pub lengths : Lengths (tables_in g) g
  pub serial : every is_digit g.facts.serial ≡ true
  pub account : every is_account_character g.account ≡ true
  pub tables : every (between 49 52) (take (tables_in g * row_length) g.tables) ≡ true

pub register-ground : (g : Registers) → registers_good g ≡ true → Ground g
unfolding good_digits good_account
register-ground g h =
    let f = formed-registers g h in
    let s = g.facts.serial in
    let hs = (formed-facts g.facts f.facts).serial in
    let serial = eqb (length s) 10 in
    let account = eqb (length g.account) 10 in
    record {
      lengths = record {
        serial = eqb-true (length s) 10 (and_left serial (every is_digit s) hs);
        account = eqb-true (length g.account) 10 (and_left account (every is_account_character g.account) f.account);
        rows = rows_long (tables_in g) g.tables f.tables;
        few = tables-most g.facts.edition;
        places = (formed-archive (family_in g) g.archive f.archive).long;
        kept = (formed-archive (family_in g) g.archive f.archive).count;
      };
      serial = and_right serial (every is_digit s) hs;
      account = and_right account (every is_account_character g.account) f.account;
      tables = rows-held (tables_in g) g.tables f.tables;
    }

pub well-formed-registers : (m : Meter) → well_formed m ≡ true → registers_good m.registers ≡ true
well-formed-registers m h = (formed m h).registers

-- what the writers require
pub well-formed-lengths : (m : Meter) → well_formed m ≡ true → Lengths (tables_in m.registers) m.registers
well-formed-lengths m h = (register-ground m.registers (well-formed-registers m h)).lengths

-- a part of a beginning is that part of the whole
part_of : (from n all : ℕ) (s : List ℕ) → from + n ≤ all → take n (drop from (take all s)) ≡ take n (drop from s)
part_of zero n all s h = take-take n all s (omega arith)
part_of (suc from) n zero s h = absurd (omega arith)
part_of (suc from) n (suc all) [] h = refl
part_of (suc from) n (suc all) (c ∷ s) h = part_of from n all s (omega arith)

-- a row of those that are held is zones alone
pub row-zones : (tables : ℕ) (s : List ℕ) → every (between 49 52) (take (tables * row_length) s) ≡ true → (n : ℕ) → n < tables
    → every (between 49 52) (row_of s (suc n)) ≡ true
unfolding row_of
row-zones tables s h n k =
    let from = row_start (suc n) in
    rw (← part_of from row_length (tables * row_length) s (omega arith))
    (every_take (between 49 52) row_length (drop from (take (tables * row_length) s)) (every_drop (between 49 52) from (take (tables * row_length) s) h))

row-good : (g : Registers) → Ground g → (n : ℕ) → good_table (tables_in g) n ≡ true → every (between 49 52) (row_of g.tables n) ≡ true
unfolding good_table between
row-good g f zero h = absurd (omega (arith, leb-true 1 0 (and_left (leb 1 0) (leb 0 (tables_in g)) h)))
row-good g f (suc n) h = row-zones (tables_in g) g.tables f.tables n (omega (arith, leb-true (suc n) (tables_in g) (and_right (leb 1 (suc n)) (leb (suc n) (tables_in g)) h)))

-- every answer to R1 is good data sets
pub asked-good : (g : Registers) (a : Ask) → registers_good g ≡ true → answerable (tables_in g) a ≡ true → good_sets (asked_sets g a) ≡ true
unfolding asked_sets good_sets answerable
asked-good g ask.Clock h k = rw (time-good g.clock.time, date-good g.clock.date)
asked-good g ask.Serial h k = let f = register-ground g h in rw (serial-good g.facts.serial f.lengths.serial f.serial)
asked-good g ask.Account h k = let f = register-ground g h in rw (account-good g.account f.lengths.account f.account)
asked-good g (ask.Energy e) h k = rw (energy-good (family_in g) false (energy_no e) (energy g.counters e))
asked-good g (ask.Export e) h k = rw (energy-good (family_in g) true (energy_no e) (energy g.exported e))
asked-good g (ask.Table t) h k =
    let f = register-ground g h in
    let short = row-short g.tables t.0 in
    rw (table-good t.0 (row_of g.tables t.0) (omega arith) (row-good g f t.0 k))

-- and so is the data block
tables-good : (g : Registers) → Ground g → (n : ℕ) → n ≤ tables_in g → good_sets (table_sets g.tables n) ≡ true
unfolding table_sets good_sets
tables-good g f zero k = refl
tables-good g f (suc n) k =
    let short = row-short g.tables (suc n) in
    good-append (table_sets g.tables n) _ (tables-good g f n (omega arith))
    (rw (table-good (suc n) (row_of g.tables (suc n)) (omega arith) (row-zones (tables_in g) g.tables f.tables n (omega arith))))

facts-good : (g : Registers) → Ground g → good_sets (fact_sets g.facts.serial g.clock g.account) ≡ true
unfolding fact_sets good_sets
facts-good g f =
    rw (
      serial-good g.facts.serial f.lengths.serial f.serial,
      date-good g.clock.date,
      time-good g.clock.time,
      account-good g.account f.lengths.account f.account,
    )

energies-good : (family : ℕ) (out : Bool) (c : Counters) → good_sets (energy_sets family out c) ≡ true
unfolding energy_sets good_sets
energies-good family out c =
    rw (
      energy-good family out 1 (counter_of c 1),
      energy-good family out 2 (counter_of c 2),
      energy-good family out 3 (counter_of c 3),
      energy-good family out 4 (counter_of c 4),
      energy-good family out 0 c.total,
    )

both-good : (family : ℕ) (came went : List DataSet) → good_sets came ≡ true → good_sets went ≡ true → good_sets (in_and_out family came went) ≡ true
unfolding in_and_out
both-good family came went h k = good-append came (cond (is_eqm family) went []) h (by (is_eqm family))
  where
    by : (b : Bool) → good_sets (cond b went []) ≡ true
    by true = k
    by false = unfold good_sets in refl

pub block-good : (g : Registers) → registers_good g ≡ true → good_sets (block_sets (tables_in g) g) ≡ true
unfolding block_sets
block-good g h =
    let f = register-ground g h in
    good-append _ _ (facts-good g f) (good-append _ _ (both-good (family_in g) _ _ (energies-good (family_in g) false g.counters) (energies-good (family_in g) true g.exported)) (tables-good g f (tables_in g) (omega arith)))

-- [12]: and so are the closed periods
kept-sets-good : (family : ℕ) (out : Bool) (k : ℕ) (zones : List ℕ) → good_sets (kept_sets family out k zones) ≡ true
unfolding kept_sets good_sets
kept-sets-good family out k zones =
    rw (
      kept-good family out k 1 (kept_in zones 1),
      kept-good family out k 2 (kept_in zones 2),
      kept-good family out k 3 (kept_in zones 3),
      kept-good family out k 4 (kept_in zones 4),
    )

period-sets-good : (family k : ℕ) (p : Period) → good_sets (period_sets family k p) ≡ true
unfolding period_sets good_sets
period-sets-good family k p =
    rw (closed-good k p.closed, both-good family _ _ (kept-sets-good family false k p.zones) (kept-sets-good family true k p.exported))

archive-sets-good : (family k : ℕ) (ps : List Period) → good_sets (archive_sets family k ps) ≡ true
unfolding archive_sets good_sets
archive-sets-good family k [] = refl
archive-sets-good family k (p ∷ ps) =
    good-append (period_sets family k p) (archive_sets family (k + 1) ps) (period-sets-good family k p) (archive-sets-good family (k + 1) ps)

pub long-good : (g : Registers) → registers_good g ≡ true → good_sets (long_sets (tables_in g) g) ≡ true
unfolding long_sets
long-good g h = good-append (block_sets (tables_in g) g) (archive_sets (family_in g) 1 (periods_of g.archive)) (block-good g h) (archive-sets-good (family_in g) 1 (periods_of g.archive))

-- the block is the lines of its data sets and `!` CR LF; nine data sets, or fourteen of an EQM meter, and one a table
pub block-is-lines : (tables : ℕ) (g : Registers) → block_data tables g ≡ lines_of (block_sets tables g) ++ (33 ∷ 13 ∷ 10 ∷ [])
unfolding block_data
block-is-lines tables g = refl

table-sets : (rows : List ℕ) (n : ℕ) → length (table_sets rows n) ≡ n
unfolding table_sets
table-sets rows zero = refl
table-sets rows (suc n) = length-append (table_sets rows n) _ ∙ omega (arith, table-sets rows n)

pub block-sets : (tables : ℕ) (g : Registers) → length (block_sets tables g) ≡ cond (is_eqm (family_in g)) 14 9 + tables
unfolding block_sets fact_sets energy_sets in_and_out
block-sets tables g = by (is_eqm (family_in g))
  where
    by : (b : Bool) → length (fact_sets g.facts.serial g.clock g.account ++ ((energy_sets (family_in g) false g.counters ++ cond b (energy_sets (family_in g) true g.exported) []) ++ table_sets g.tables tables)) ≡ cond b 14 9 + tables
    by true = omega (arith, table-sets g.tables tables)
    by false = omega (arith, table-sets g.tables tables)

-- printable characters, CR and LF alone
pub asked-shown : (g : Registers) (a : Ask) → registers_good g ≡ true → answerable (tables_in g) a ≡ true → every (between 10 126) (asked_data g a) ≡ true
unfolding asked_data
asked-shown g a h k = lines-shown (asked_sets g a) (asked-good g a h k)

pub block-shown : (g : Registers) → registers_good g ≡ true → every (between 10 126) (block_data (tables_in g) g) ≡ true
unfolding block_data
block-shown g h =
    every_append (between 10 126) (lines_of (block_sets (tables_in g) g)) (33 ∷ 13 ∷ 10 ∷ []) (lines-shown (block_sets (tables_in g) g) (block-good g h))
    (unfold every between in refl)

pub long-shown : (g : Registers) → registers_good g ≡ true → every (between 10 126) (long_data (tables_in g) g) ≡ true
unfolding long_data
long-shown g h =
    every_append (between 10 126) (lines_of (long_sets (tables_in g) g)) (33 ∷ 13 ∷ 10 ∷ []) (lines-shown (long_sets (tables_in g) g) (long-good g h))
    (unfold every between in refl)

-- such a content has no ETX, and its block is characters
shown-low : (c : ℕ) → between 10 126 c ≡ true → c < 128
unfolding between
shown-low c h = omega (arith, leb-true c 126 (and_right (leb 10 c) (leb c 126) h))

pub shown-no-etx : Within (between 10 126) (λ c. not (eqb c 3))
unfolding between
shown-no-etx = within (between 10 126) (λ c. not (eqb c 3)) refl shown-low

shown-character : Within (between 10 126) (between 0 127)
unfolding between
shown-character = within (between 10 126) (between 0 127) refl shown-low

pub no-etx : (content : List ℕ) → every (between 10 126) content ≡ true → every (λ c. not (eqb c 3)) content ≡ true
no-etx = every-weaker (between 10 126) (λ c. not (eqb c 3)) shown-no-etx

character-is : (c : ℕ) → c < 128 → between 0 127 c ≡ true
unfolding between
character-is c h = rw (le-leb 0 c (omega arith), le-leb c 127 (omega arith))

pub block-characters : (content : List ℕ) → every (between 10 126) content ≡ true → every (between 0 127) (block_of content) ≡ true
unfolding block_of closed every
block-characters content h =
    let e = every_append (between 0 127) content (3 ∷ []) (every-weaker (between 10 126) (between 0 127) shown-character content h) (rw (character-is 3 (omega arith))) in
    rw (character-is 2 (omega arith))
    (every_append (between 0 127) (content ++ (3 ∷ [])) _ e (rw (character-is (bcc_of (content ++ (3 ∷ []))) (bcc-lt (content ++ (3 ∷ []))))))

pub asked-characters : (g : Registers) (a : Ask) → registers_good g ≡ true → answerable (tables_in g) a ≡ true → every (between 0 127) (block_of (asked_data g a)) ≡ true
asked-characters g a h k = block-characters (asked_data g a) (asked-shown g a h k)

pub data-block-characters : (g : Registers) → registers_good g ≡ true → every (between 0 127) (block_of (block_data (tables_in g) g)) ≡ true
data-block-characters g h = block-characters (block_data (tables_in g) g) (block-shown g h)

pub long-block-characters : (g : Registers) → registers_good g ≡ true → every (between 0 127) (block_of (long_data (tables_in g) g)) ≡ true
long-block-characters g h = block-characters (long_data (tables_in g) g) (long-shown g h)

-- the fixed sequences, by computing
identified-by : (two : Bool) → every (between 0 127) (cond two (chars "/ZZZ5SUB-VP02.00*\r\n") (chars "/ZZZ5SUB-VP01.00*\r\n")) ≡ true
unfolding every between
identified-by true = refl
identified-by false = refl

pub identification-characters : (edition : ℕ) → every (between 0 127) (identification edition) ≡ true
unfolding identification
identification-characters edition = identified-by (eqb edition 2)

-- its BCC is 60 hex
pub password-ask-is : password_ask ≡ 1 ∷ 80 ∷ 48 ∷ 2 ∷ 40 ∷ 48 ∷ 48 ∷ 48 ∷ 48 ∷ 41 ∷ 3 ∷ 96 ∷ []
unfolding password_ask frame_of bracketed closed bcc_of seven
password-ask-is = refl

pub password-ask-characters : every (between 0 127) password_ask ≡ true
unfolding every between
password-ask-characters = rw password-ask-is

pub accepted-characters : every (between 0 127) accepted ≡ true
unfolding every between
accepted-characters = refl

pub refused-characters : every (between 0 127) refused ≡ true
unfolding every between
refused-characters = refl
