-- Feeding: a byte and the rest, one run after another, and rooms that are large enough are all one room. Assumes nothing.
use mathlib.Core.Path.{◌≡◌, refl, ap, ap₂, ◌∙◌}
use mathlib.Core.List.{List, [], ◌∷◌, ◌++◌}
use Prim.Native.Nat.{ℕ, suc, ◌≤◌}
use borrow.Author.Tests.{le-ltb}
use Rattle.state.specs.Sizes.{reply_room}
use Rattle.state.specs.declared.Meter.{Meter}
use Rattle.meter.specs.Outcomes.{Outcome}
use Rattle.meter.specs.Character.{character}
use Rattle.dialogue.specs.Feeding.{Said, said_in, later, answered, left, full}

-- what some bytes are answered with, and the state after them
pub record Fed (m : Meter) (bytes : List ℕ) (said : List Said) (after : Meter) : Type 0 where
  pub said-is : answered m full bytes ≡ said
  pub after_is : left m full bytes ≡ after

pub fed-none : (m : Meter) → Fed m [] [] m
unfolding answered left
fed-none m = record { said-is = refl; after_is = refl }

pub fed-next : (m : Meter) (b : ℕ) (o : Outcome) (bs : List ℕ) (said : List Said) (after : Meter) → character m reply_room b ≡ o → Fed o.next bs said after
    → Fed m (b ∷ bs) (said_in o ∷ said) after
unfolding answered left
fed-next m b o bs said after e f =
    record {
      said-is = ap (λ (x : Outcome). said_in x ∷ answered x.next full bs) e ∙ ap (λ (l : List Said). said_in o ∷ l) f.said-is;
      after_is = ap (λ (x : Outcome). left x.next full bs) e ∙ f.after_is;
    }

answered-append : (m : Meter) (a b : List ℕ) → answered m full (a ++ b) ≡ answered m full a ++ answered (left m full a) full b
unfolding answered left
answered-append m [] b = refl
answered-append m (x ∷ a) b = ap (λ (l : List Said). said_in (character m reply_room x) ∷ l) (answered-append (character m reply_room x).next a b)

left-append : (m : Meter) (a b : List ℕ) → left m full (a ++ b) ≡ left (left m full a) full b
unfolding left
left-append m [] b = refl
left-append m (x ∷ a) b = left-append (character m reply_room x).next a b

pub fed-append : (m : Meter) (a b : List ℕ) (s t : List Said) (mid after : Meter) → Fed m a s mid → Fed mid b t after → Fed m (a ++ b) (s ++ t) after
fed-append m a b s t mid after f g =
    record {
      said-is = answered-append m a b ∙ ap₂ ◌++◌ f.said-is (ap (λ (n : Meter). answered n full b) f.after_is ∙ g.said-is);
      after_is = left-append m a b ∙ ap (λ (n : Meter). left n full b) f.after_is ∙ g.after_is;
    }

-- a larger buffer changes nothing
room-alike : (m : Meter) (room b : ℕ) → reply_room ≤ room → character m room b ≡ character m reply_room b
unfolding character
room-alike m room b h = rw (le-ltb room reply_room h)

said-alike : (m : Meter) (rooms : ℕ → ℕ) (bytes : List ℕ) → ((i : ℕ) → reply_room ≤ rooms i) → answered m rooms bytes ≡ answered m full bytes
unfolding answered
said-alike m rooms [] h = refl
said-alike m rooms (b ∷ bs) h =
    ap (λ (x : Outcome). said_in x ∷ answered x.next (later rooms) bs) (room-alike m (rooms 0) b (h 0))
    ∙ ap (λ (l : List Said). said_in (character m reply_room b) ∷ l) (said-alike (character m reply_room b).next (later rooms) bs (λ i. h (suc i)))

left-alike : (m : Meter) (rooms : ℕ → ℕ) (bytes : List ℕ) → ((i : ℕ) → reply_room ≤ rooms i) → left m rooms bytes ≡ left m full bytes
unfolding left
left-alike m rooms [] h = refl
left-alike m rooms (b ∷ bs) h =
    ap (λ (x : Outcome). left x.next (later rooms) bs) (room-alike m (rooms 0) b (h 0))
    ∙ left-alike (character m reply_room b).next (later rooms) bs (λ i. h (suc i))

pub fed-in : (m : Meter) (rooms : ℕ → ℕ) (bytes : List ℕ) (said : List Said) (after : Meter) → ((i : ℕ) → reply_room ≤ rooms i) → Fed m bytes said after
    → (answered m rooms bytes ≡ said) × (left m rooms bytes ≡ after)
fed-in m rooms bytes said after h f = (said-alike m rooms bytes h ∙ f.said-is, left-alike m rooms bytes h ∙ f.after_is)
