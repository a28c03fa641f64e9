-- Demand 2: the mode that allows what the head says, and what a meter with an empty receiver makes of it.
use Rattle.std.specs.Prelude.{◌≡◌, Bool, true, cond, not, ◌&&◌, ◌||◌, List, ℕ, ◌+◌, ◌-◌, ◌*◌, ◌≤◌, eqb, leb, length}
use Rattle.line.specs.Quoted.{char}
use Rattle.text.specs.Classes.{same_text}
use Rattle.values.specs.declared.Energy.TheVariants.{Total}
use Rattle.values.specs.Registers.{zone_energy}
use Rattle.frames.specs.Frames.{block_of}
use Rattle.frames.specs.Commands.{P1, R1}
use Rattle.frames.specs.Session.{speed_said}
use Rattle.state.specs.Sizes.{reply_room}
use Rattle.state.specs.declared.Meter.{Meter}
use Rattle.state.specs.WellFormed.{tables_in, well_formed}
use Rattle.replies.specs.declared.Ask.{Ask}
use Rattle.replies.specs.declared.Ask.TheVariants as ask
use Rattle.replies.specs.Answers.{asked_data}
use Rattle.replies.specs.Block.{block_data}
use Rattle.replies.specs.Periods.{long_data}
use Rattle.replies.specs.Fixed.{password_ask}
use Rattle.state.specs.Setting.{in_mode, with_speed, with_attempts, with_registers, with_clock, with_account, with_tables, with_row}
use Rattle.deciding.specs.Verdicts.{Verdict}
use Rattle.deciding.specs.Verdicts as verdict
use Rattle.state.specs.Link.{link_of, is_wired}
use Rattle.meter.specs.Link.{zeros, slow_too}
use Rattle.meter.specs.Outcomes.{Outcome, speed_of, silent, saying, nak, ack}
use Rattle.meter.specs.Character.{signed_on, period_closed, read_out}
use Rattle.commands.specs.Spoken.{Command, enter, password, read_clock, read_serial, read_account, read_total, read_zone, read_total_out, read_zone_out, read_table, write_clock, write_account, write_table, letters_of}
use Rattle.commands.specs.Messages.{Message, call, close, call_to, call_wired, confirm, command, leave}
use Rattle.dialogue.specs.Feeding.{said_in, answered, left, at_last}

-- P1 in mode 2, R1 in 3 and 4, W1 in 4
unfoldable pub allowed_at : Command → ℕ → Bool
allowed_at c mode = cond (same_text (letters_of c) P1) (eqb mode 2) (cond (same_text (letters_of c) R1) (eqb mode 3 || eqb mode 4) (eqb mode 4))

-- the sign-on in mode 0, the confirmation in 1, B0 in 2 to 4
unfoldable pub allowed_in : Message → ℕ → Bool
allowed_in call mode = eqb mode 0
allowed_in close mode = eqb mode 0
allowed_in (call_to serial) mode = eqb mode 0
allowed_in (call_wired serial) mode = eqb mode 0
allowed_in (confirm v y) mode = eqb mode 1
allowed_in (command c) mode = allowed_at c mode
allowed_in leave mode = leb 2 mode && leb mode 4

-- the decision that a command is
unfoldable pub decided_as : Command → Verdict
decided_as enter = verdict.Enter
decided_as (password p) = verdict.Password
decided_as read_clock = verdict.Read ask.Clock
decided_as read_serial = verdict.Read ask.Serial
decided_as read_account = verdict.Read ask.Account
decided_as read_total = verdict.Read (ask.Energy Total)
decided_as (read_zone n) = verdict.Read (ask.Energy (zone_energy n))
decided_as read_total_out = verdict.Read (ask.Export Total)
decided_as (read_zone_out n) = verdict.Read (ask.Export (zone_energy n))
decided_as (read_table n) = verdict.Read (ask.Table (record { 0 = n }))
decided_as (write_clock c) = verdict.WriteClock c
decided_as (write_account a) = verdict.WriteAccount
decided_as (write_table n row) = verdict.WriteTable (record { 0 = n })

-- attempts 3 gives 11; wrong gives 10 and one attempt more; right gives ACK, mode 4, attempts 0
unfoldable pub tried_with : Meter → List ℕ → Outcome
tried_with m p =
    cond (eqb m.attempts 3) (nak 11 m)
    (cond (same_text p m.registers.facts.password) (ack (speed_of m) (in_mode (with_attempts m 0) 4))
    (nak 10 (with_attempts m (m.attempts + 1))))

-- the block with what was asked, and the meter as it was
abbrev pub telling : Meter → Ask → Outcome
telling m a = saying 1 (speed_of m) (block_of (asked_data m.registers a)) m

-- what each command comes to: ACK and only that register anew, or the block that was asked for
unfoldable pub obeyed : Meter → Command → Outcome
obeyed m enter = ack (speed_of m) (in_mode m 3)
obeyed m (password p) = tried_with m p
obeyed m read_clock = telling m ask.Clock
obeyed m read_serial = telling m ask.Serial
obeyed m read_account = telling m ask.Account
obeyed m read_total = telling m (ask.Energy Total)
obeyed m (read_zone n) = telling m (ask.Energy (zone_energy n))
obeyed m read_total_out = telling m (ask.Export Total)
obeyed m (read_zone_out n) = telling m (ask.Export (zone_energy n))
obeyed m (read_table n) = telling m (ask.Table (record { 0 = n }))
obeyed m (write_clock c) = ack (speed_of m) (with_registers m (with_clock m.registers c))
obeyed m (write_account a) = ack (speed_of m) (with_registers m (with_account m.registers a))
obeyed m (write_table n row) = ack (speed_of m) (with_registers m (with_tables m.registers (with_row m.registers.tables n row)))

-- [14]: '5' on either link, '0' where the link has it
unfoldable pub digit_heard : ℕ → ℕ → Bool
digit_heard link v = eqb v (char "5") || slow_too link

-- one answers a sign-on or says nothing
abbrev pub signed_on_if : Bool → Meter → Outcome
signed_on_if called m = cond called (signed_on m) (silent 0 m)

-- its own serial, or zeros
unfoldable pub names : Meter → List ℕ → Bool
names m serial = same_text serial m.registers.facts.serial || same_text serial zeros

-- every reply in a session at its speed, a confirmation at the one that it names; a meter that is called by its own serial, or by zeros, answers; another says nothing;
-- [12]: `/C!` finds any meter and closes a period, and '6' asks for the closed periods too;
-- [14]: each link has its own sign-ons, and is deaf to those of the other; the wired one does not know the digit '0'
unfoldable pub outcome_of : Meter → Message → Outcome
outcome_of m call = signed_on_if (not (is_wired (link_of m))) m
outcome_of m close = cond (not (is_wired (link_of m))) (signed_on (period_closed m)) (silent 0 m)
outcome_of m (call_to serial) = signed_on_if (not (is_wired (link_of m)) && names m serial) m
outcome_of m (call_wired serial) = signed_on_if (is_wired (link_of m) && names m serial) m
outcome_of m (confirm v y) =
    cond (digit_heard (link_of m) v)
    (cond (eqb y (char "1")) (saying 1 (speed_said v) password_ask (with_speed (in_mode m 2) (speed_said v)))
    (read_out m (speed_said v) (cond (eqb y (char "6")) (long_data (tables_in m.registers) m.registers) (block_data (tables_in m.registers) m.registers))))
    (silent 2 (in_mode m 0))
outcome_of m (command c) = obeyed m c
outcome_of m leave = ack (speed_of m) (in_mode m 0)

-- well-formed, with an empty receiver, in a mode that allows the message
pub record Listens (m : Meter) (x : Message) : Type 0 where
  pub formed : well_formed m ≡ true
  pub empty : m.receiver.count ≡ 0
  pub allowed : allowed_in x m.mode ≡ true

-- these bytes, given one by one with room for every reply: nothing at each but the last, and there what the message comes to
pub record Taken (m : Meter) (x : Message) (bytes : List ℕ) : Type 0 where
  pub said : (rooms : ℕ → ℕ) → ((i : ℕ) → reply_room ≤ rooms i) → answered m rooms bytes ≡ at_last (length bytes - 1) (speed_of m) (said_in (outcome_of m x))
  pub after : (rooms : ℕ → ℕ) → ((i : ℕ) → reply_room ≤ rooms i) → left m rooms bytes ≡ (outcome_of m x).next

-- [14]: a confirmation that the link knows
unfoldable pub heard_on : ℕ → Message → Bool
heard_on link (confirm v y) = digit_heard link v
heard_on link call = true
heard_on link close = true
heard_on link (call_to serial) = true
heard_on link (call_wired serial) = true
heard_on link (command c) = true
heard_on link leave = true

-- confirmation wrong, parity, BCC, too long, shape, unknown, not allowed, data
unfoldable pub misheard : ℕ → Bool
misheard number = leb 2 number && leb number 9
