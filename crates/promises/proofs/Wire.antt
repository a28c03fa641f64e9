-- [14]: a meter on the wire that is not called says nothing and changes nothing but its receiver, whatever is sent there. Byte by byte: in
-- listening mode only a line that calls it does more than fill or empty the receiver. Assumes nothing.
use mathlib.Core.Path.{◌≡◌, refl, sym, ap, ap₂, subst, ◌∙◌}
use mathlib.Core.Bool.{Bool, true, false, cond, not, ◌&&◌}
use mathlib.Core.List.{List, [], ◌∷◌, ◌++◌}
use Prim.Native.Nat.{ℕ}
use native.Mathlib.Omega.{arith}
use borrow.Author.Tests.{eqb-true, not-true}
use lib.Dec.{eqb, leb, ltb}
use Rattle.line.specs.Characters.{damaged_at}
use Rattle.line.proofs.Runs.{and_left, and_right}
use Rattle.values.specs.Edition.{is_edition}
use Rattle.state.specs.Sizes.{reply_room}
use Rattle.state.specs.declared.Meter.{Meter}
use Rattle.state.specs.WellFormed.{edition_of, well_formed, marked}
use Rattle.state.specs.Link.{link_of, is_wired, rest_speed}
use Rattle.state.specs.Making.{empty_receiver}
use Rattle.state.specs.Setting.{with_receiver, with_speed, in_mode}
use Rattle.state.proofs.Parts.{formed, rest-low}
use Rattle.receiving.specs.declared.Hearing.{Hearing}
use Rattle.receiving.specs.declared.Hearing.TheVariants.{Drop, Hold, Restart, Empty, Line, Confirm, Frame, TooLong}
use Rattle.receiving.specs.Hearing.{listening, hearing}
use Rattle.receiving.specs.Receivers.{held_text, last_held}
use Rattle.meter.specs.Outcomes.{Outcome, silent, unheard}
use Rattle.meter.specs.Link.{wired_call, calls, closes}
use Rattle.meter.specs.Character.{symbol, signed_on, line_ended, heard, taken, character}
use Rattle.promises.specs.Wire.{OnWire, called_by, uncalled, said_to, heard_all, Unmoved}
use Rattle.promises.proofs.Choices as choice
use Rattle.promises.proofs.Formed.{character-stays}

-- nothing said, and all but the receiver as it was
pub record Quiet (m : Meter) (o : Outcome) : Type 0 where
  pub says : o.reply ≡ []
  pub stays : o.next ≡ with_receiver m o.next.receiver

module _ (m : Meter) (w : OnWire m) where
  -- listening mode emptied is the same mode at the same speed
  emptied : in_mode m 0 ≡ with_receiver m empty_receiver
  emptied =
      let rest = rest-low (link_of m) m.mode m.speed (omega (arith, w.listening)) (formed m w.formed).speed in
      ap₂ (λ (mode speed : ℕ). record { mode = mode; attempts = m.attempts; speed = speed; receiver = empty_receiver; registers = m.registers }) (sym w.listening) (sym rest)

  empties : (o : Outcome) → o ≡ silent 0 (in_mode m 0) → Quiet m o
  empties o e =
      record {
        says = ap (λ (x : Outcome). x.reply) e;
        stays = ap (λ (x : Outcome). x.next) e ∙ emptied ∙ ap (λ (x : Outcome). with_receiver m x.next.receiver) (sym e);
      }

  -- a line that does not call it
  line_quiet : (not (marked m.receiver) && wired_call (held_text m.receiver ++ (10 ∷ [])) m.registers.facts.serial) ≡ false → Quiet m (line_ended m)
  unfolding line_ended calls closes
  line_quiet h = rw w.wired (go (signed_on m) (marked m.receiver) (wired_call (held_text m.receiver ++ (10 ∷ [])) m.registers.facts.serial) h)
    where
      go : (x : Outcome) (p q : Bool) → (not p && q) ≡ false → Quiet m (cond p (silent 0 (in_mode m 0)) (cond q x (silent 0 (in_mode m 0))))
      go x true q e = empties _ refl
      go x false true e = absurd (let z : ◌≡◌ {A = ℕ} 0 1 = cc in omega arith)
      go x false false e = empties _ refl

  abbrev P : ℕ → Bool → Hearing → Type 0
  P c d h = Quiet m (heard m c d h)

  listened : (c : ℕ) (d : Bool) → (eqb c 10 && (not (marked m.receiver) && wired_call (held_text m.receiver ++ (10 ∷ [])) m.registers.facts.serial)) ≡ false
      → P c d (listening m.receiver.count c)
  unfolding heard listening
  listened c d h =
      choice.either (P c d) (eqb c 47) (record { says = refl; stays = refl })
      (choice.either (P c d) (eqb m.receiver.count 0) (record { says = refl; stays = refl })
      (choice.given (P c d) (eqb c 10) (λ e. line_quiet (rw e at h))
      (choice.either (P c d) (leb 31 m.receiver.count) (record { says = refl; stays = refl }) (record { says = refl; stays = refl }))))

  -- in listening mode a character is heard so
  listens : (c : ℕ) → hearing m.mode m.receiver.count (last_held m.receiver) c ≡ listening m.receiver.count c
  unfolding hearing
  listens c = rw w.listening

  pub byte-quiet : (room b : ℕ) → called_by m b ≡ false → Quiet m (character m room b)
  unfolding character taken called_by
  byte-quiet room b h =
      choice.either (Quiet m) (is_edition (edition_of m))
      (choice.either (Quiet m) (ltb room reply_room) (record { says = refl; stays = refl })
      (rw w.formed (subst (P (symbol b) (damaged_at b)) (sym (listens (symbol b))) (listened (symbol b) (damaged_at b) h))))
      (record { says = refl; stays = refl })

  -- and so it is still there
  still : (room b : ℕ) → called_by m b ≡ false → OnWire (character m room b).next
  still room b h =
      let s = (byte-quiet room b h).stays in
      record {
        formed = character-stays m w.formed room b;
        wired = ap (λ (x : Meter). is_wired (link_of x)) s ∙ w.wired;
        listening = ap (λ (x : Meter). x.mode) s ∙ w.listening;
      }

pub unmoved : (bs : List (ℕ × ℕ)) (m : Meter) → OnWire m → uncalled m bs ≡ true → Unmoved m bs
unfolding uncalled said_to heard_all
unmoved [] m w h = record { says = refl; stays = refl }
unmoved ((room, b) ∷ bs) m w h =
    let next = (character m room b).next in
    let other = not-true (called_by m b) (and_left (not (called_by m b)) (uncalled next bs) h) in
    let q = byte-quiet m w room b other in
    let rest = unmoved bs next (still m w room b other) (and_right (not (called_by m b)) (uncalled next bs) h) in
    record {
      says = ap₂ ◌++◌ q.says rest.says;
      stays = rest.stays ∙ ap (λ (x : Meter). with_receiver x (heard_all next bs).receiver) q.stays;
    }
