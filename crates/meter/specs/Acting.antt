-- Document 01, "Deciding a frame": what each decision does.
use Rattle.std.specs.Prelude.{cond, List, ℕ, ◌+◌, eqb, take, drop}
use Rattle.text.specs.Classes.{same_text}
use Rattle.frames.specs.Frames.{block_of}
use Rattle.state.specs.Sizes.{row_length}
use Rattle.state.specs.declared.Meter.{Meter}
use Rattle.state.specs.WellFormed.{tables_in}
use Rattle.state.specs.Making.{empty_receiver}
use Rattle.values.specs.Registers.{good_table}
use Rattle.replies.specs.Answers.{asked_data}
use Rattle.state.specs.Setting.{with_receiver, in_mode, with_attempts, with_registers, with_clock, with_account, with_tables, with_row}
use Rattle.deciding.specs.Verdicts.{Verdict, Refuse, Leave, Enter, Password, Read, WriteClock, WriteAccount, WriteTable}
use Rattle.meter.specs.Outcomes.{Outcome, speed_of, saying, nak, ack}

-- the characters that a frame gives: SOH P1 STX ( password; SOH W1 STX K ( account; SOH W1 STX Z ( xx ; row
abbrev pub password_given : Meter → List ℕ
password_given m = take 8 (drop 5 m.receiver.held)

abbrev pub account_given : Meter → List ℕ
account_given m = take 10 (drop 6 m.receiver.held)

abbrev pub row_given : Meter → List ℕ
row_given m = take row_length (drop 9 m.receiver.held)

-- attempts 3 gives 11; wrong gives 10 and one attempt more; right gives ACK, mode 4, attempts 0
unfoldable pub tried : Meter → Outcome
tried m =
    cond (eqb m.attempts 3) (nak 11 m)
    (cond (same_text (password_given m) m.registers.facts.password) (ack (speed_of m) (in_mode (with_attempts m 0) 4))
    (nak 10 (with_attempts m (m.attempts + 1))))

-- the account, a table's row: what a write leaves, the receiver aside
abbrev pub account_taken : Meter → Meter
account_taken m = with_registers m (with_account m.registers (account_given m))

abbrev pub row_taken : Meter → ℕ → Meter
row_taken m n = with_registers m (with_tables m.registers (with_row m.registers.tables n (row_given m)))

-- only that register changes
abbrev pub wrote : Meter → Meter → Outcome
wrote m changed = ack (speed_of m) (with_receiver changed empty_receiver)

unfoldable pub acted : Meter → Verdict → Outcome
acted m (Refuse n) = nak n m
acted m Leave = ack (speed_of m) (in_mode m 0)
acted m Enter = ack (speed_of m) (in_mode m 3)
acted m Password = tried m
acted m (Read a) = saying 1 (speed_of m) (block_of (asked_data m.registers a)) (with_receiver m empty_receiver)
acted m (WriteClock c) = wrote m (with_registers m (with_clock m.registers c))
acted m WriteAccount = wrote m (account_taken m)
acted m (WriteTable t) = cond (good_table (tables_in m.registers) t.0) (wrote m (row_taken m t.0)) (nak 9 m)
