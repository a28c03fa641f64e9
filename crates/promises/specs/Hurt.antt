-- [2]: where a frame was hurt, told from the bytes alone: the place of its first damaged byte, counted from its start at 0; a restart forgets it.
use Rattle.std.specs.Prelude.{◌≡◌, Bool, true, false, cond, ◌&&◌, List, [], ◌∷◌, ◌++◌, ℕ, ◌-◌, ◌≤◌, eqb, length, get_or}
use Rattle.line.specs.Controls.{SOH, ETX}
use Rattle.state.specs.Sizes.{reply_room}
use Rattle.state.specs.declared.Meter.{Meter}
use Rattle.state.specs.WellFormed.{well_formed}
use Rattle.receiving.specs.Receivers.{last_held}
use Rattle.meter.specs.Character.{symbol, character}

-- the bytes of a frame so far, and one more: after an ETX it is the BCC, whatever it is; otherwise SOH restarts
abbrev pub ends_in_etx : List ℕ → Bool
ends_in_etx run = eqb (symbol (get_or run (length run - 1) 0)) ETX

abbrev pub one_more : List ℕ → ℕ → List ℕ
one_more run b = cond (ends_in_etx run) (run ++ (b ∷ [])) (cond (eqb (symbol b) SOH) (b ∷ []) (run ++ (b ∷ [])))

-- the bytes since the last restart
unfoldable pub since : List ℕ → List ℕ → List ℕ
since run [] = run
since run (b ∷ bs) = since (one_more run b) bs

-- bytes given one after the other, in reply buffers of 2,048 bytes; and whether each is answered 0
unfoldable pub fed : Meter → List ℕ → Meter
fed m [] = m
fed m (b ∷ bs) = fed (character m reply_room b).next bs

unfoldable pub quietly : Meter → List ℕ → Bool
quietly m [] = true
quietly m (b ∷ bs) = eqb (character m reply_room b).number 0 && quietly (character m reply_room b).next bs

-- in a session, any run of bytes from an SOH on that is no BCC: all are answered 0 but for the last, b, which is answered 3
pub record HurtFrame (m : Meter) (soh : ℕ) (bs : List ℕ) (b : ℕ) : Type 0 where
  pub formed : well_formed m ≡ true
  pub session : 2 ≤ m.mode
  pub no-bcc : eqb (last_held m.receiver) ETX ≡ false
  pub starts : eqb (symbol soh) SOH ≡ true
  pub quiet : quietly m (soh ∷ bs) ≡ true
  pub answered : (character (fed m (soh ∷ bs)) reply_room b).number ≡ 3
