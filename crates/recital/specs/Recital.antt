-- Demand 2: what a block of a meter says to the head. Every data set in order, and each value read back to what the meter holds.
use Rattle.std.specs.Prelude.{◌≡◌, Bool, true, false, cond, List, [], ◌∷◌, ◌++◌, map, ℕ, zero, suc, ◌+◌, ◌≤◌, length, take, drop}
use Rattle.line.specs.Quoted.{chars}
use Rattle.text.specs.Decimal.{decimal}
use Rattle.text.specs.Writing.{holding}
use Rattle.clock.specs.declared.Date.{Date}
use Rattle.clock.specs.declared.Time.{Time}
use Rattle.clock.specs.declared.Stamp.{Stamp}
use Rattle.values.specs.Family.{is_eqm, counter_end, export_end}
use Rattle.values.specs.declared.Energy.{Energy}
use Rattle.values.specs.declared.Energy.TheVariants.{Total, Zone}
use Rattle.values.specs.Registers.{energy_no}
use Rattle.values.specs.Texts.{table_text}
use Rattle.values.specs.Reading.{date_read, time_read, stamp_read, energy_read}
use Rattle.values.specs.Serials.{serial_read, account_read, row_read}
use Rattle.frames.specs.Frames.{block_of, on_wire}
use Rattle.state.specs.declared.Counters.{Counters}
use Rattle.state.specs.declared.Period.{Period}
use Rattle.state.specs.declared.Registers.{Registers}
use Rattle.state.specs.WellFormed.{total, tables_in, family_in}
use Rattle.state.specs.Setting.{counter_of}
use Rattle.state.specs.Closing.{periods_of}
use Rattle.replies.specs.Periods.{kept_in}
use Rattle.datasets.specs.Sets.{DataSet, energy_name}
use Rattle.replies.specs.declared.Ask.{Ask}
use Rattle.replies.specs.declared.Ask.TheVariants as ask
use Rattle.replies.specs.Shown.{row_of}
use Rattle.blocks.specs.Stripping.{stripped_of, stripped_into}
use Rattle.blocks.specs.Parts.{part_of}
use Rattle.reading.specs.Whole.{read_all}

-- what one data set says: a register with its value; of an energy, as a family shows it, whether it went out, its number (0 is the total, 1 to 4 are the zones) and the counter;
-- of a period its number and time, and the same with its number
pub data Register : Type 0 where
  serial : List ℕ → Register
  date : Date → Register
  time : Time → Register
  account : List ℕ → Register
  energy : ℕ → Bool → ℕ → ℕ → Register
  row : ℕ → List ℕ → Register
  closed : ℕ → Stamp → Register
  kept : ℕ → Bool → ℕ → ℕ → ℕ → Register

-- it stands at that register's address, and its value is read back to the register's own
unfoldable pub ReadsAs : Register → DataSet → Type 0
ReadsAs (serial s) d = (d.address ≡ chars "C.1.0") × (serial_read d.value ≡ record { ok = true; serial = s })
ReadsAs (date t) d = (d.address ≡ chars "0.9.2") × (date_read d.value ≡ record { ok = true; date = t })
ReadsAs (time t) d = (d.address ≡ chars "0.9.1") × (time_read d.value ≡ record { ok = true; time = t })
ReadsAs (account s) d = (d.address ≡ chars "0.0.0") × (account_read d.value ≡ record { ok = true; account = s })
ReadsAs (energy family out n count) d = (d.address ≡ energy_name family out ++ decimal 1 n) × (energy_read family d.value ≡ record { ok = true; number = count })
ReadsAs (row n s) d = (d.address ≡ chars "131.0." ++ table_text n) × (row_read d.value ≡ record { ok = true; row = s })
ReadsAs (closed k t) d = (d.address ≡ chars "0.1.2*" ++ decimal 2 k) × (stamp_read d.value ≡ record { ok = true; stamp = t })
ReadsAs (kept family out k n count) d =
    (d.address ≡ energy_name family out ++ (decimal 1 n ++ (chars "*" ++ decimal 2 k))) × (energy_read family d.value ≡ record { ok = true; number = count })

-- these data sets say these registers, one for one, in order
unfoldable pub Recites : List DataSet → List Register → Type 0
Recites [] [] = Unit {0}
Recites [] (x ∷ xs) = ⊥
Recites (d ∷ ds) [] = ⊥
Recites (d ∷ ds) (x ∷ xs) = ReadsAs x d × Recites ds xs

-- 1 to n
unfoldable pub table_numbers : ℕ → List ℕ
table_numbers zero = []
table_numbers (suc n) = table_numbers n ++ (suc n ∷ [])

unfoldable pub rows : List ℕ → List ℕ → List Register
rows tables ns = map (λ n. row n (row_of tables n)) ns

-- T1 to T4, and their sum, which rolls over where they do
unfoldable pub energies_say : ℕ → Bool → ℕ → Counters → List Register
energies_say family out end c =
    energy family out 1 (counter_of c 1) ∷ energy family out 2 (counter_of c 2) ∷ energy family out 3 (counter_of c 3)
    ∷ energy family out 4 (counter_of c 4) ∷ energy family out 0 (total end c) ∷ []

-- [10]: what came in, and behind it what went out of an EQM meter
unfoldable pub in_and_out : ℕ → List Register → List Register → List Register
in_and_out family came went = came ++ cond (is_eqm family) went []

abbrev pub directions_say : Registers → List Register
directions_say g =
    let family = family_in g in
    in_and_out family (energies_say family false (counter_end family) g.counters) (energies_say family true (export_end family) g.exported)

-- the data block: serial, date, time, account, these, the tables
unfoldable pub block_says : Registers → List Register
block_says g =
    serial g.facts.serial ∷ date g.clock.date ∷ time g.clock.time ∷ account g.account
    ∷ (directions_say g ++ rows g.tables (table_numbers (tables_in g)))

-- [12]: the closed periods, numbered from k on: each one's time and its four counters, [10]: in each direction
unfoldable pub kept_say : ℕ → Bool → ℕ → List ℕ → List Register
kept_say family out k zones =
    kept family out k 1 (kept_in zones 1) ∷ kept family out k 2 (kept_in zones 2) ∷ kept family out k 3 (kept_in zones 3)
    ∷ kept family out k 4 (kept_in zones 4) ∷ []

unfoldable pub period_says : ℕ → ℕ → Period → List Register
period_says family k p = closed k p.closed ∷ in_and_out family (kept_say family false k p.zones) (kept_say family true k p.exported)

unfoldable pub periods_say : ℕ → ℕ → List Period → List Register
periods_say family k [] = []
periods_say family k (p ∷ ps) = period_says family k p ++ periods_say family (k + 1) ps

-- the block with them: from 01 on, the newest first
unfoldable pub long_says : Registers → List Register
long_says g = block_says g ++ periods_say (family_in g) 1 (periods_of g.archive)

-- how many a block says before its tables, and of each closed period
unfoldable pub sets_before : ℕ → ℕ
sets_before family = cond (is_eqm family) 14 9

unfoldable pub sets_kept : ℕ → ℕ
sets_kept family = cond (is_eqm family) 9 5

-- the sum of the four counters, or one of them; a total that a meter keeps is no register of its own
unfoldable pub counts : ℕ → Counters → Energy → ℕ
counts end c Total = total end c
counts end c (Zone z) = counter_of c z.0

-- the answers to R1
unfoldable pub answer_says : Registers → Ask → List Register
answer_says g ask.Clock = time g.clock.time ∷ date g.clock.date ∷ []
answer_says g ask.Serial = serial g.facts.serial ∷ []
answer_says g ask.Account = account g.account ∷ []
answer_says g (ask.Energy e) = energy (family_in g) false (energy_no e) (counts (counter_end (family_in g)) g.counters e) ∷ []
answer_says g (ask.Export e) = energy (family_in g) true (energy_no e) (counts (export_end (family_in g)) g.exported e) ∷ []
answer_says g (ask.Table t) = row t.0 (row_of g.tables t.0) ∷ []

-- a block with this content, as a meter sends it: it strips, its part is the content, and that reads to its end as these registers
pub record ReadsBack (content : List ℕ) (xs : List Register) : Type 0 where
  pub strips : (out : List ℕ) → length (block_of content) ≤ length out
      → stripped_of (on_wire (block_of content)) out ≡ record { number = 1; length = length (block_of content); place = 0 }
  pub stripped : (out : List ℕ) → length (block_of content) ≤ length out → stripped_into (on_wire (block_of content)) out ≡ holding out (block_of content)
  pub parted : part_of (block_of content) ≡ record { number = 1; start = 1; length = length content }
  pub part : take (length content) (drop 1 (block_of content)) ≡ content
  pub ended : (read_all content).number ≡ 0
  pub recited : Recites (read_all content).sets xs
