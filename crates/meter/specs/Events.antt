-- Document 01, "Other events": silence, tick, pulse and power-up. [10]: a pulse says its direction.
use Rattle.std.specs.Prelude.{Bool, cond, not, ◌&&◌, ◌||◌, [], ℕ, eqb, ltb}
use Rattle.values.specs.Family.{is_eqm}
use Rattle.state.specs.Sizes.{reply_room}
use Rattle.state.specs.declared.Meter.{Meter}
use Rattle.state.specs.WellFormed.{family_of, well_formed}
use Rattle.state.specs.Setting.{in_mode, with_attempts, with_registers}
use Rattle.tariff.specs.Zones.{counted_in, counted_out}
use Rattle.tariff.specs.Months.{second_later}
use Rattle.state.specs.Link.{link_of, rest_speed}
use Rattle.meter.specs.Link.{refused_reply}
use Rattle.meter.specs.Outcomes.{Outcome, silent, unheard, of_edition, saying}

-- mode 1 replies NAK, or what the link rules, and goes to mode 0; modes 2 to 4 go to mode 0 unanswered; mode 0 empties the receiver
unfoldable pub after_silence : Meter → Outcome
after_silence m = cond (eqb m.mode 0) (silent 0 (in_mode m 0)) (cond (eqb m.mode 1) (saying 1 (rest_speed (link_of m)) (refused_reply (link_of m)) (in_mode m 0)) (silent 1 (in_mode m 0)))

unfoldable pub silence : Meter → ℕ → Outcome
silence m room = of_edition m (cond (ltb room reply_room) (unheard 12 m) (cond (well_formed m) (after_silence m) (unheard 14 m)))

-- one second; the one that reaches 00:00:00 on the first of a month closes a period
abbrev pub after_tick : Meter → Outcome
after_tick m = silent 1 (with_registers m (second_later m.registers))

unfoldable pub tick : Meter → Outcome
tick m = of_edition m (cond (well_formed m) (after_tick m) (unheard 14 m))

-- a pulse in either direction, out or in, counts in the registers of its own
abbrev pub after_pulse : Meter → Bool → ℕ → Outcome
after_pulse m out units = silent 1 (with_registers m (cond out (counted_out m.registers units) (counted_in m.registers units)))

-- it has 0 to 1,000,000 units of the last place; a meter of document 01's family has no counters for what goes out
unfoldable pub pulse_refused : ℕ → Bool → ℕ → Bool
pulse_refused family out units = (out && not (is_eqm family)) || ltb 1000000 units

unfoldable pub pulse : Meter → Bool → ℕ → Outcome
pulse m out units =
    of_edition m (cond (pulse_refused (family_of m) out units) (unheard 13 m) (cond (well_formed m) (after_pulse m out units) (unheard 14 m)))

-- mode 0, empty receiver, attempts 0
abbrev pub after_power_up : Meter → Outcome
after_power_up m = silent 1 (with_attempts (in_mode m 0) 0)

unfoldable pub power_up : Meter → Outcome
power_up m = of_edition m (cond (well_formed m) (after_power_up m) (unheard 14 m))
