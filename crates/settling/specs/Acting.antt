-- What comes of an event that is not settled, by a record that is lent.
use Rattle.state.specs.declared.Meter.{Meter}
use Rattle.meter.specs.declared.Event.{Event}
use Rattle.meter.specs.declared.Deed.{Deed}
use Rattle.meter.specs.declared.Acted.{Acted}
use Rattle.meter.specs.Deeds.{standing_of, small_of, left_deed, said_by, acted_with}

abbrev pub deed_of : Meter → Event → Deed
deed_of m e = left_deed (standing_of m) m.receiver.held m.registers.clock e

-- what is answered and stored, but for the tables and the archive
abbrev pub acted_by : Meter → Event → Acted
acted_by m e = acted_with (small_of m) (said_by m.registers (deed_of m e)) (deed_of m e)
