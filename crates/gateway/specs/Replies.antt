-- What a refused slice answers.
use Rattle.storing.specs.declared.Reply.{Reply}
use Rattle.whole.specs.Looking.{Looked}

-- a number and a speed, and no reply
abbrev pub refused_reply : Looked → Reply
refused_reply l = record { number = l.number; length = 0; speed = l.speed; place = 0 }
