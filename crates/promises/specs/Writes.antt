-- What a character may change in the registers.
use Rattle.std.specs.Prelude.{◌≡◌, true, false, ◌||◌, List, [], ◌∷◌, ◌++◌, ℕ, ◌+◌, ◌-◌, length, take, drop}
use Rattle.line.specs.Characters.{damaged_at}
use Rattle.line.specs.Controls.{SOH, STX, LF}
use Rattle.line.specs.Quoted.{chars}
use Rattle.clock.specs.Seconds.{real_clock}
use Rattle.clock.specs.declared.Clock.{Clock}
use Rattle.values.specs.declared.TableNo.{TableNo}
use Rattle.values.specs.Reading.{ClockRead, TableRead, clock_read, table_read}
use Rattle.values.specs.Registers.{good_account, good_row, good_table}
use Rattle.frames.specs.Session.{closing_sign_on}
use Rattle.state.specs.WellFormed.{family_of, tables_in, marked}
use Rattle.state.specs.Closing.{closing}
use Rattle.state.specs.declared.Registers.{Registers}
use Rattle.state.specs.declared.Meter.{Meter}
use Rattle.state.specs.Link.{link_of, is_wired}
use Rattle.state.specs.Setting.{with_clock, with_account, with_tables, with_row}
use Rattle.receiving.specs.declared.Hearing.{Hearing}
use Rattle.receiving.specs.declared.Hearing.TheVariants.{Line, Frame}
use Rattle.receiving.specs.Hearing.{hearing}
use Rattle.receiving.specs.Receivers.{held_text, last_held}
use Rattle.deciding.specs.Verdicts.{Verdict, WriteClock, WriteAccount, WriteTable}
use Rattle.deciding.specs.Shape.{content}
use Rattle.deciding.specs.Telling.{inner}
use Rattle.deciding.specs.Verdict.{verdict}
use Rattle.meter.specs.Outcomes.{Outcome}
use Rattle.meter.specs.Character.{symbol}

-- SOH W1 STX
abbrev pub write_start : List ℕ
write_start = SOH ∷ chars "W1" ++ STX ∷ []

-- what a frame tells between its brackets
abbrev pub tells_of : Meter → List ℕ
tells_of m = inner (content (held_text m.receiver))

-- what stands in the brackets of the data that P1 brings
abbrev pub entered_in : Meter → List ℕ
entered_in m = take (length (content (held_text m.receiver)) - 2) (drop 1 (content (held_text m.receiver)))

-- the byte completes a frame that starts SOH W1 STX, in mode 4, and the meter decides it so
pub record Written (m : Meter) (b : ℕ) (v : Verdict) : Type 0 where
  pub programming : m.mode ≡ 4
  pub completed : hearing m.mode m.receiver.count (last_held m.receiver) (symbol b) ≡ Frame
  pub started : take 4 (held_text m.receiver) ≡ write_start
  pub decided : verdict (tables_in m.registers) (family_of m) m.mode (held_text m.receiver) (marked m.receiver || damaged_at b) (symbol b) ≡ v

-- [12]: the byte completes an unmarked line `/C!` CR LF, in mode 0
pub record Called (m : Meter) (b : ℕ) : Type 0 where
  pub listening : m.mode ≡ 0
  pub completed : hearing m.mode m.receiver.count (last_held m.receiver) (symbol b) ≡ Line
  pub unmarked : marked m.receiver ≡ false
  pub optical : is_wired (link_of m) ≡ false
  pub said : held_text m.receiver ++ (LF ∷ []) ≡ closing_sign_on

-- the registers after an outcome: as they were, or with the one register that an accepted write names, and what it tells of it,
-- or with a period closed by the sign-on for that
pub data Kept (m : Meter) (b : ℕ) (o : Outcome) : Type 0 where
  same : o.next.registers ≡ m.registers → Kept m b o
  clock : (c : Clock) → Written m b (WriteClock c) → c ≡ (clock_read (tells_of m)).clock → real_clock c ≡ true → o.number ≡ 1
      → o.next.registers ≡ with_clock m.registers c → Kept m b o
  account : Written m b WriteAccount → good_account (tells_of m) ≡ true → o.number ≡ 1
      → o.next.registers ≡ with_account m.registers (tells_of m) → Kept m b o
  table : (t : TableNo) → Written m b (WriteTable t) → t ≡ (table_read (tables_in m.registers) (take 2 (tells_of m))).table
      → good_table (tables_in m.registers) t.0 ≡ true → good_row (drop 3 (tells_of m)) ≡ true → o.number ≡ 1
      → o.next.registers ≡ with_tables m.registers (with_row m.registers.tables t.0 (drop 3 (tells_of m))) → Kept m b o
  closed : Called m b → o.number ≡ 1 → o.next.registers ≡ closing m.registers → Kept m b o
