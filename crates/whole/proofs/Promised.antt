-- A frame that comes whole keeps what every character keeps: each byte is one. Assumes nothing.
use mathlib.Core.Path.{◌≡◌, refl, sym, ◌∙◌}
use mathlib.Core.Bool.{true, false, ◌&&◌}
use mathlib.Core.List.{List, [], ◌∷◌}
use Prim.Native.Nat.{ℕ}
use native.Mathlib.Omega.{arith}
use borrow.Author.Tests.{eqb-true}
use lib.Dec.{eqb, ltb}
use lib.ListN.{length}
use Rattle.state.specs.Sizes.{reply_room}
use Rattle.state.specs.declared.Meter.{Meter}
use Rattle.values.specs.Edition.{is_edition}
use Rattle.state.specs.WellFormed.{edition_of, well_formed}
use Rattle.meter.specs.Outcomes.{Outcome, unheard}
use Rattle.meter.specs.Character.{character}
use Rattle.promises.proofs.Choices as choice
use Rattle.promises.proofs.Kept.{refused-keeps}
use Rattle.promises.proofs.Malformed.{character-never-14}
use Rattle.promises.proofs.Formed.{character-stays}
use Rattle.whole.specs.Whole.{finishes_at, no_frame, at_the_last, awaits, starts_anew, frame_taken, frame_at}
use Rattle.whole.specs.Promised.{Promised}

module _ (m : Meter) (room : ℕ) (formed : well_formed m ≡ true) where
  -- what is promised of an outcome
  record Good (o : Outcome) : Type 0 where
    stays : well_formed o.next ≡ true
    never : o.number ≡ 14 → ⊥
    keeps : (o.number ≡ 1 → ⊥) → o.next.registers ≡ m.registers

  none-good : Good (no_frame m)
  none-good = record { stays = formed; never = λ e. omega (arith, e); keeps = λ other. refl }

  short-good : Good (unheard 12 m)
  short-good = record { stays = formed; never = λ e. omega (arith, e); keeps = λ other. refl }

  other-good : Good (unheard 16 m)
  other-good = record { stays = formed; never = λ e. omega (arith, e); keeps = λ other. refl }

  -- the bytes one after the other, from a meter with the same registers
  last-good : (bytes : List ℕ) (k : Meter) → well_formed k ≡ true → k.registers ≡ m.registers → Good (at_the_last m k room bytes)
  unfolding at_the_last
  last-good [] k f same = none-good
  last-good (b ∷ bs) k f same =
      choice.either Good (eqb (length bs) 0)
      (choice.either Good (finishes_at k b)
      (record { stays = character-stays k f room b; never = character-never-14 k room b f; keeps = λ other. refused-keeps k b room other ∙ same }) none-good)
      (choice.given Good (eqb (character k room b).number 0)
      (λ zero. last-good bs (character k room b).next (character-stays k f room b) (refused-keeps k b room (λ one. omega (arith, one, eqb-true (character k room b).number 0 zero)) ∙ same))
      none-good)

  all-good : (bytes : List ℕ) → Good (frame_at m room bytes)
  unfolding frame_at frame_taken
  all-good bytes =
      choice.either Good (is_edition (edition_of m))
      (choice.either Good (ltb room reply_room) short-good
      (choice.told Good (well_formed m) (λ is. choice.either Good (awaits m && starts_anew bytes) (last-good bytes m formed refl) none-good)
      (λ is. absurd (omega (arith, flip is)))))
      other-good
    where
      flip : well_formed m ≡ false → ◌≡◌ {A = ℕ} 0 1
      flip is = differ (sym is ∙ formed)
        where
          differ : false ≡ true → ◌≡◌ {A = ℕ} 0 1
          differ e = cc

  pub promised : (bytes : List ℕ) → Promised m room bytes
  promised bytes = let g = all-good bytes in record { stays = g.stays; never-14 = g.never; keeps = g.keeps }
