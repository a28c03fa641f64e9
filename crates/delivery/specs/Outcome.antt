-- What a delivery's answer says of the meter: the acknowledgements and the state after them; a refusal has none and leaves the meter as it was.
use Rattle.std.specs.Prelude.{ℕ, Result, Ok, Err}
use Rattle.state.specs.declared.Meter.{Meter}
use Rattle.export.specs.declared.Refusal.{Refusal}
use Rattle.delivery.specs.declared.Fed.{Fed}

abbrev pub acknowledged_in : Result Fed Refusal → ℕ
acknowledged_in (Ok fed) = fed.acknowledged
acknowledged_in (Err refusal) = 0

abbrev pub left_in : Meter → Result Fed Refusal → Meter
left_in m (Ok fed) = fed.next
left_in m (Err refusal) = m
