-- Demand 2, both ways: what the head asks a meter for is what it then reads.
use Rattle.std.specs.Prelude.{◌≡◌, true, false, List, [], ◌∷◌, ℕ, eqb}
use Rattle.line.specs.Quoted.{char}
use Rattle.values.specs.Family.{is_eqm, counter_end, export_end}
use Rattle.values.specs.Registers.{good_table, good_zone}
use Rattle.frames.specs.Frames.{block_of}
use Rattle.frames.specs.Session.{good_speed}
use Rattle.state.specs.declared.Meter.{Meter}
use Rattle.state.specs.Link.{link_of}
use Rattle.state.specs.Setting.{counter_of}
use Rattle.state.specs.WellFormed.{total, tables_in, family_of}
use Rattle.replies.specs.Shown.{row_of}
use Rattle.commands.specs.Building.{good_choice}
use Rattle.commands.specs.Spoken.{read_clock, read_serial, read_account, read_total, read_zone, read_total_out, read_zone_out, read_table}
use Rattle.commands.specs.Messages.{Message, confirm, command}
use Rattle.dialogue.specs.Messages.{digit_heard, outcome_of}
use Rattle.recital.specs.Recital.{Register, serial, date, time, account, energy, row, block_says, long_says, ReadsBack}

-- the reply to a message is a block that reads back as these registers
pub record Learns (m : Meter) (x : Message) (xs : List Register) : Type 0 where
  pub content : List ℕ
  pub reply : (outcome_of m x).reply ≡ block_of content
  pub reads : ReadsBack content xs

-- a confirmation that asks for no programming, at either speed that the link knows, is answered with the whole block, with the closed periods where it asks for them, and each R1 with what it
-- asks for; what went out is asked of an EQM meter
pub record Answers (m : Meter) : Type 0 where
  pub block : (v y : ℕ) → good_speed v ≡ true → digit_heard (link_of m) v ≡ true → good_choice y ≡ true → eqb y (char "1") ≡ false → eqb y (char "6") ≡ false → Learns m (confirm v y) (block_says m.registers)
  pub periods : (v : ℕ) → good_speed v ≡ true → digit_heard (link_of m) v ≡ true → Learns m (confirm v (char "6")) (long_says m.registers)
  pub clock : Learns m (command read_clock) (time m.registers.clock.time ∷ date m.registers.clock.date ∷ [])
  pub own-serial : Learns m (command read_serial) (serial m.registers.facts.serial ∷ [])
  pub own-account : Learns m (command read_account) (account m.registers.account ∷ [])
  pub whole : Learns m (command read_total) (energy (family_of m) false 0 (total (counter_end (family_of m)) m.registers.counters) ∷ [])
  pub zone : (n : ℕ) → good_zone n ≡ true → Learns m (command (read_zone n)) (energy (family_of m) false n (counter_of m.registers.counters n) ∷ [])
  pub whole_out : is_eqm (family_of m) ≡ true → Learns m (command read_total_out) (energy (family_of m) true 0 (total (export_end (family_of m)) m.registers.exported) ∷ [])
  pub zone-out : is_eqm (family_of m) ≡ true → (n : ℕ) → good_zone n ≡ true
      → Learns m (command (read_zone_out n)) (energy (family_of m) true n (counter_of m.registers.exported n) ∷ [])
  pub table : (n : ℕ) → good_table (tables_in m.registers) n ≡ true → Learns m (command (read_table n)) (row n (row_of m.registers.tables n) ∷ [])
