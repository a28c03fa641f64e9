-- What an answer says besides the next state.
use Rattle.std.specs.Prelude.{length}
use Rattle.meter.specs.Outcomes.{Outcome}
use Rattle.meter.specs.declared.Acted.{Acted}
use Rattle.storing.specs.declared.Reply.{Reply}

-- what a deed answers
abbrev pub reply_to : Acted → Reply
reply_to a = record { number = a.number; length = a.length; speed = a.speed; place = a.place }

-- the number, the reply's length, its speed and the place
abbrev pub reply_of : Outcome → Reply
reply_of o = record { number = o.number; length = length o.reply; speed = o.speed; place = o.place }
