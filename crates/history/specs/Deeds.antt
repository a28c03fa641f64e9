-- What a history tells the registers: the writes, the seconds, the energy in and out and the calls that close a period, the newest first.
use Rattle.std.specs.Prelude.{cond, ◌&&◌, List, [], ◌∷◌, ◌++◌, ℕ, eqb}
use Rattle.values.specs.Edition.{tables_of}
use Rattle.state.specs.declared.Facts.{Facts}
use Rattle.meter.specs.declared.Event.{Event}
use Rattle.meter.specs.declared.Event.TheVariants.{Character, Silence, Tick, Pulse, PowerUp, PulseOut, Unknown}
use Rattle.history.specs.Frames.{Write, write_in}
use Rattle.history.specs.Standing.{Standing, standing, closes_period, is_whole, frame_by}

pub data Deed : Type 0 where
  wrote : Write → Deed
  second : Deed
  energy : ℕ → Deed
  energy_out : ℕ → Deed
  closed : Deed

unfoldable pub wrote_all : List Write → List Deed
wrote_all [] = []
wrote_all (w ∷ ws) = wrote w ∷ wrote_all ws

-- a byte that makes a frame whole while programming mode stands; one that ends /C! while listening
abbrev pub by_byte : Facts → Standing → ℕ → List Deed
by_byte facts s b =
    cond (eqb s.mode 4 && is_whole s) (wrote_all (write_in (tables_of facts.edition) (frame_by s b)))
    (cond (eqb s.mode 0 && closes_period facts (s.said ++ (b ∷ []))) (closed ∷ []) [])

unfoldable pub deeds_at : Facts → Standing → Event → List Deed
deeds_at facts s (Character b) = by_byte facts s b
deeds_at facts s Silence = []
deeds_at facts s Tick = second ∷ []
deeds_at facts s (Pulse units) = energy units ∷ []
deeds_at facts s PowerUp = []
deeds_at facts s (PulseOut units) = energy_out units ∷ []
deeds_at facts s Unknown = []

unfoldable pub deeds : Facts → List Event → List Deed
deeds facts [] = []
deeds facts (e ∷ past) = deeds_at facts (standing facts past) e ++ deeds facts past

-- the writes among them
unfoldable pub writes_of : List Deed → List Write
writes_of [] = []
writes_of (wrote w ∷ ds) = w ∷ writes_of ds
writes_of (second ∷ ds) = writes_of ds
writes_of (energy units ∷ ds) = writes_of ds
writes_of (energy_out units ∷ ds) = writes_of ds
writes_of (closed ∷ ds) = writes_of ds
