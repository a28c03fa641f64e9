-- A look at a slice says what `frame_at` says: what it refuses is refused there, and what it finishes is the meter's step at the last byte, upon a receiver with which the state is well-formed. Assumes nothing.
use mathlib.Core.Path.{◌≡◌, refl, sym, ap, subst, ◌∙◌}
use mathlib.Core.Bool.{Bool, true, false, cond}
use mathlib.Core.List.{List}
use Prim.Native.Nat.{ℕ, ◌≤◌, ◌<◌}
use native.Mathlib.Omega.{arith}
use borrow.Author.Tests.{eqb-true, eqb-false, ltb-false}
use lib.Dec.{eqb, ltb}
use Rattle.values.specs.Edition.{is_edition}
use Rattle.state.specs.Sizes.{reply_room}
use Rattle.state.specs.declared.Meter.{Meter}
use Rattle.state.specs.WellFormed.{edition_of, family_of, well_formed}
use Rattle.meter.specs.Outcomes.{unheard}
use Rattle.meter.specs.Character.{taken}
use Rattle.meter.specs.Life.{event_of, refusal}
use Rattle.meter.specs.Deeds.{standing_of, left_deed, done}
use Rattle.whole.specs.Whole.{finishes_at, awaits, frame_taken, frame_at}
use Rattle.whole.specs.Gathering.{last_of, held_in, run_of, filled}
use Rattle.whole.specs.declared.Refusal.{Refusal}
use Rattle.whole.specs.declared.Refusal.TheVariants.{NoEdition, ShortBuffer, Malformed, NoFrame}
use Rattle.whole.specs.Looking.{Looked, number_of, speed_of, refuses, finishes, gathered, looked_by, looked, refused_with, filled_with}
use Rattle.whole.proofs.Finishing.{taken_none, nothing-whole, frame-whole, frame-formed, frame-ended, told-fits, ended-done}

-- a refusal has a number
never-zero : (x : Refusal) → number_of x ≡ 0 → ⊥
never-zero NoEdition z = omega (arith, z)
never-zero ShortBuffer z = omega (arith, z)
never-zero Malformed z = omega (arith, z)
never-zero (NoFrame speed) z = omega (arith, z)

module _ (m : Meter) (room : ℕ) (bytes : List ℕ) where
  -- the last byte is to be taken
  pub record Finished (l : Looked) : Type 0 where
    pub outcome : frame_at m room bytes ≡ taken (filled_with m l) l.last
    pub formed : well_formed (filled_with m l) ≡ true
    pub large : reply_room ≤ room
    pub ended : finishes_at (filled_with m l) l.last ≡ true

  -- what a look says
  record Says (l : Looked) : Type 0 where
    refused : (l.number ≡ 0 → ⊥) → frame_at m room bytes ≡ refused_with m l
    finished : l.number ≡ 0 → Finished l

  says-no : (l : Looked) → (l.number ≡ 0 → ⊥) → frame_at m room bytes ≡ refused_with m l → Says l
  says-no l some e = record { refused = λ _. e; finished = λ z. absurd (some z) }

  -- by each test that was passed before
  no-edition : is_edition (edition_of m) ≡ false → frame_at m room bytes ≡ unheard 16 m
  unfolding frame_at
  no-edition e = rw e

  no_room : is_edition (edition_of m) ≡ true → ltb room reply_room ≡ true → frame_at m room bytes ≡ unheard 12 m
  unfolding frame_at
  no_room e s = rw (e, s)

  malformed : is_edition (edition_of m) ≡ true → ltb room reply_room ≡ false → well_formed m ≡ false → frame_at m room bytes ≡ unheard 14 m
  unfolding frame_at
  malformed e s w = rw (e, s, w)

  module _ (e : is_edition (edition_of m) ≡ true) (s : ltb room reply_room ≡ false) (w : well_formed m ≡ true) where
    is-large : reply_room ≤ room
    is-large = ltb-false room reply_room s

    is-taken : frame_at m room bytes ≡ frame_taken m room bytes
    unfolding frame_at
    is-taken = rw (e, s, w)

    module _ (a : awaits m ≡ true) where
      held_by : (z : Bool) → eqb (held_in bytes) 0 ≡ z → Says (cond z (refuses 17 m.speed) (finishes (filled (run_of (held_in bytes) bytes)) (last_of bytes)))
      held_by true z = says-no (refuses 17 m.speed) (λ n. omega (arith, n)) (is-taken ∙ nothing-whole m room is-large w bytes a (eqb-true (held_in bytes) 0 z))
      held_by false z =
          let some : held_in bytes ≡ 0 → ⊥ = eqb-false (held_in bytes) 0 z in
          record {
            refused = λ n. absurd (n refl);
            finished = λ n.
                record {
                  outcome = is-taken ∙ frame-whole m room is-large w bytes a some;
                  formed = frame-formed m room is-large w bytes a some;
                  large = is-large;
                  ended = frame-ended m room is-large w bytes a some;
                };
          }

      gathered-says : Says (gathered m.speed bytes)
      unfolding gathered
      gathered-says = held_by (eqb (held_in bytes) 0) refl

  looks : Says (looked m room bytes)
  unfolding looked_by awaits
  looks = go (is_edition (edition_of m)) refl (ltb room reply_room) refl (well_formed m) refl (awaits m) refl
    where
      go : (k : Bool) → is_edition (edition_of m) ≡ k → (s : Bool) → ltb room reply_room ≡ s → (w : Bool) → well_formed m ≡ w → (a : Bool) → awaits m ≡ a
          → Says (cond k (cond s (refuses 12 0) (cond w (cond a (gathered m.speed bytes) (refuses 17 m.speed)) (refuses 14 0))) (refuses 16 0))
      go false e s es w ew a ea = says-no (refuses 16 0) (λ n. omega (arith, n)) (no-edition e)
      go true e true es w ew a ea = says-no (refuses 12 0) (λ n. omega (arith, n)) (no_room e es)
      go true e false es false ew a ea = says-no (refuses 14 0) (λ n. omega (arith, n)) (malformed e es ew)
      go true e false es true ew false ea = says-no (refuses 17 m.speed) (λ n. omega (arith, n)) (is-taken e es ew ∙ taken_none m room (is-large e es ew) ew bytes ea)
      go true e false es true ew true ea = gathered-says e es ew ea

  pub refused-is : ((looked m room bytes).number ≡ 0 → ⊥) → frame_at m room bytes ≡ refused_with m (looked m room bytes)
  refused-is some = looks.refused some

  pub finished-is : (looked m room bytes).number ≡ 0 → Finished (looked m room bytes)
  finished-is z = looks.finished z

  -- the same of what a look's result says
  pub finished_as : (l : Looked) → l ≡ looked m room bytes → l.number ≡ 0 → Finished l
  finished_as l e z = rw e (finished-is (ap (λ (k : Looked). k.number) (sym e) ∙ z))

  pub refused_as : (x : Refusal) → refuses (number_of x) (speed_of x) ≡ looked m room bytes → frame_at m room bytes ≡ refused_with m (refuses (number_of x) (speed_of x))
  refused_as x e =
      subst (λ (l : Looked). frame_at m room bytes ≡ refused_with m l) (sym e) (refused-is (λ z. never-zero x (ap (λ (k : Looked). k.number) e ∙ z)))

  -- the last byte as an event: nothing refuses it, and all comes of its deed
  pub finished-fits : (l : Looked) → Finished l → l.last < 256 → refusal (family_of (filled_with m l)) room (event_of 0 l.last) ≡ 0
  finished-fits l f small = told-fits (family_of (filled_with m l)) room l.last f.large small

  pub finished-done : (l : Looked) → Finished l → l.last < 256
      → frame_at m room bytes ≡ done (filled_with m l) (left_deed (standing_of (filled_with m l)) l.receiver.held m.registers.clock (event_of 0 l.last))
  finished-done l f small = f.outcome ∙ ended-done (filled_with m l) l.last small f.ended
