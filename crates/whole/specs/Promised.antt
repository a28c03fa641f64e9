-- [8] keeps demand 1: what a frame that comes whole leaves of a well-formed meter.
use Rattle.std.specs.Prelude.{◌≡◌, true, List, ℕ}
use Rattle.state.specs.declared.Meter.{Meter}
use Rattle.state.specs.WellFormed.{well_formed}
use Rattle.whole.specs.Whole.{frame_at}

-- the next state is well-formed, the number is never 14, and any other than 1 changes no register
pub record Promised (m : Meter) (room : ℕ) (bytes : List ℕ) : Type 0 where
  pub stays : well_formed (frame_at m room bytes).next ≡ true
  pub never-14 : (frame_at m room bytes).number ≡ 14 → ⊥
  pub keeps : ((frame_at m room bytes).number ≡ 1 → ⊥) → (frame_at m room bytes).next.registers ≡ m.registers
