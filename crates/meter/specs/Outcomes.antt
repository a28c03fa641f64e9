-- What a call answers: the number, the reply as characters, its speed, the place of the first damaged character with 3, and the next state.
use Rattle.std.specs.Prelude.{cond, List, [], ℕ, length}
use Rattle.values.specs.Edition.{is_edition}
use Rattle.state.specs.declared.Meter.{Meter}
use Rattle.state.specs.WellFormed.{edition_of}
use Rattle.state.specs.Setting.{in_mode}
use Rattle.state.specs.Link.{link_of}
use Rattle.replies.specs.Fixed.{accepted}
use Rattle.meter.specs.Link.{refused_reply, after_refusal}
use Rattle.meter.specs.declared.Answer.{Answer}

pub record Outcome : Type 0 where
  pub number : ℕ
  pub speed : ℕ
  pub reply : List ℕ
  pub place : ℕ
  pub next : Meter

-- as the call gives it, with the reply's length
abbrev pub answer_of : Outcome → Answer
answer_of o = record { number = o.number; length = length o.reply; speed = o.speed; place = o.place; next = o.next }

-- the speed identifier that the state holds
abbrev pub speed_of : Meter → ℕ
speed_of m = m.speed

-- nothing to reply: the speed given is the next state's
abbrev pub silent : ℕ → Meter → Outcome
silent number next = record { number = number; speed = speed_of next; reply = []; place = 0; next = next }

-- 12 to 14 and 16: nothing changed, speed 0
abbrev pub unheard : ℕ → Meter → Outcome
unheard number m = record { number = number; speed = 0; reply = []; place = 0; next = m }

-- [3]: a meter of an edition that there is not answers 16 before all else
abbrev pub of_edition : Meter → Outcome → Outcome
of_edition m o = cond (is_edition (edition_of m)) o (unheard 16 m)

-- a reply at a speed
abbrev pub saying : ℕ → ℕ → List ℕ → Meter → Outcome
saying number speed reply next = record { number = number; speed = speed; reply = reply; place = 0; next = next }

-- the same with a place
abbrev pub at_place : Outcome → ℕ → Outcome
at_place o place = record { number = o.number; speed = o.speed; reply = o.reply; place = place; next = o.next }

-- refusals 3 to 11 reply what the link rules, at the session's speed
abbrev pub nak : ℕ → Meter → Outcome
nak number m = saying number (speed_of m) (refused_reply (link_of m)) (in_mode m (after_refusal (link_of m) m.mode))

-- ACK, at the session's speed
abbrev pub ack : ℕ → Meter → Outcome
ack speed next = saying 1 speed accepted next
