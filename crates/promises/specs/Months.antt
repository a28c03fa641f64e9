-- [12], "Closed months": exactly when the archive changes, and to what.
use Rattle.std.specs.Prelude.{Bool, false, cond, not, ◌&&◌, ℕ, eqb, leb}
use Rattle.line.specs.Controls.{LF}
use Rattle.clock.specs.Seconds.{next_second}
use Rattle.clock.specs.declared.Clock.{Clock}
use Rattle.state.specs.Sizes.{reply_room}
use Rattle.state.specs.declared.Archive.{Archive}
use Rattle.state.specs.declared.Meter.{Meter}
use Rattle.state.specs.Link.{link_of}
use Rattle.state.specs.WellFormed.{marked}
use Rattle.state.specs.Closing.{closed_with, period_of}
use Rattle.receiving.specs.Receivers.{held_text}
use Rattle.tariff.specs.Months.{month_starts}
use Rattle.meter.specs.SignOn.{closes_by}
use Rattle.meter.specs.Character.{symbol}
use Rattle.meter.specs.declared.Event.{Event}
use Rattle.meter.specs.declared.Event.TheVariants.{Character, Silence, Tick, Pulse, PowerUp, PulseOut, Unknown}

-- LF in mode 0, after an unmarked `/C!` CR
unfoldable pub closes_here : Meter → ℕ → Bool
closes_here m c = eqb m.mode 0 && (eqb c LF && (not (marked m.receiver) && closes_by (link_of m) (held_text m.receiver)))

-- that, with room for a reply; the tick that reaches 00:00:00 on the first of a month; and nothing else
unfoldable pub closes_at : Meter → ℕ → Event → Bool
closes_at m room (Character b) = leb reply_room room && closes_here m (symbol b)
closes_at m room Silence = false
closes_at m room Tick = month_starts (next_second m.registers.clock)
closes_at m room (Pulse units) = false
closes_at m room PowerUp = false
closes_at m room (PulseOut units) = false
closes_at m room Unknown = false

-- the time of the period: that which the tick reaches, or the clock as it is
unfoldable pub closing_time : Meter → Event → Clock
closing_time m Tick = next_second m.registers.clock
closing_time m (Character b) = m.registers.clock
closing_time m Silence = m.registers.clock
closing_time m (Pulse units) = m.registers.clock
closing_time m PowerUp = m.registers.clock
closing_time m (PulseOut units) = m.registers.clock
closing_time m Unknown = m.registers.clock

unfoldable pub archive_after : Meter → ℕ → Event → Archive
archive_after m room e =
    cond (closes_at m room e) (closed_with (period_of (closing_time m e) m.registers.counters m.registers.exported) m.registers.archive) m.registers.archive
