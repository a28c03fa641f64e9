-- What a settled event answers.
use Rattle.std.specs.Prelude.{ℕ}
use Rattle.settling.specs.Settling.{Heard}
use Rattle.storing.specs.declared.Reply.{Reply}

-- a number and a speed, and no reply
abbrev pub silent_reply : ℕ → ℕ → Reply
silent_reply number speed = record { number = number; length = 0; speed = speed; place = 0 }

-- a settled event has no reply
abbrev pub settled_reply : Heard → Reply
settled_reply h = silent_reply h.number h.speed
