-- Bytes given to a meter one after the other, with no other event, and what it answers to each.
use Rattle.std.specs.Prelude.{List, [], ◌∷◌, ◌++◌, ℕ, suc, replicate}
use Rattle.state.specs.Sizes.{reply_room}
use Rattle.state.specs.declared.Meter.{Meter}
use Rattle.meter.specs.Outcomes.{Outcome}
use Rattle.meter.specs.Character.{character}

-- an answer without the next state
pub record Said : Type 0 where
  pub number : ℕ
  pub speed : ℕ
  pub reply : List ℕ
  pub place : ℕ

abbrev pub said_in : Outcome → Said
said_in o = record { number = o.number; speed = o.speed; reply = o.reply; place = o.place }

-- the rooms of the events after the first
abbrev pub later : (ℕ → ℕ) → ℕ → ℕ
later rooms i = rooms (suc i)

-- each event has a reply buffer of its own room
unfoldable pub answered : Meter → (ℕ → ℕ) → List ℕ → List Said
answered m rooms [] = []
answered m rooms (b ∷ bs) = said_in (character m (rooms 0) b) ∷ answered (character m (rooms 0) b).next (later rooms) bs

-- the state after them all
unfoldable pub left : Meter → (ℕ → ℕ) → List ℕ → Meter
left m rooms [] = m
left m rooms (b ∷ bs) = left (character m (rooms 0) b).next (later rooms) bs

-- reply buffers of 4,096 bytes
abbrev pub full : ℕ → ℕ
full i = reply_room

-- taken, nothing to say, at a speed
abbrev pub quiet : ℕ → Said
quiet speed = record { number = 0; speed = speed; reply = []; place = 0 }

-- nothing at so many bytes, and something at the last
abbrev pub at_last : ℕ → ℕ → Said → List Said
at_last n speed said = replicate n (quiet speed) ++ (said ∷ [])
