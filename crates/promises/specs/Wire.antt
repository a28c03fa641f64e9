-- [14]: several meters on one wire. What a meter hears there that is not meant for it.
use Rattle.std.specs.Prelude.{◌≡◌, Bool, true, not, ◌&&◌, List, [], ◌∷◌, ◌++◌, ℕ, eqb}
use Rattle.line.specs.Controls.{LF}
use Rattle.state.specs.declared.Meter.{Meter}
use Rattle.state.specs.WellFormed.{well_formed, marked}
use Rattle.state.specs.Link.{link_of, is_wired}
use Rattle.state.specs.Setting.{with_receiver}
use Rattle.receiving.specs.Receivers.{held_text}
use Rattle.meter.specs.Link.{wired_call}
use Rattle.meter.specs.Character.{symbol, character}

-- on the wired link, in listening mode
pub record OnWire (m : Meter) : Type 0 where
  pub formed : well_formed m ≡ true
  pub wired : is_wired (link_of m) ≡ true
  pub listening : m.mode ≡ 0

-- the byte is the LF of an undamaged line that calls this meter, by its serial or by zeros
unfoldable pub called_by : Meter → ℕ → Bool
called_by m b = eqb (symbol b) LF && (not (marked m.receiver) && wired_call (held_text m.receiver ++ (LF ∷ [])) m.registers.facts.serial)

-- bytes of the wire, each with the room for a reply: none of them calls the meter
unfoldable pub uncalled : Meter → List (ℕ × ℕ) → Bool
uncalled m [] = true
uncalled m ((room, b) ∷ bs) = not (called_by m b) && uncalled (character m room b).next bs

-- all that the meter says to them, and the meter after them
unfoldable pub said_to : Meter → List (ℕ × ℕ) → List ℕ
said_to m [] = []
said_to m ((room, b) ∷ bs) = (character m room b).reply ++ said_to (character m room b).next bs

unfoldable pub heard_all : Meter → List (ℕ × ℕ) → Meter
heard_all m [] = m
heard_all m ((room, b) ∷ bs) = heard_all (character m room b).next bs

-- it says nothing and changes nothing but its receiver
pub record Unmoved (m : Meter) (bs : List (ℕ × ℕ)) : Type 0 where
  pub says : said_to m bs ≡ []
  pub stays : heard_all m bs ≡ with_receiver m (heard_all m bs).receiver
