-- A line ends by LF in mode 0 alone, and `/C!` is none of the other sign-ons. Assumes nothing.
use mathlib.Core.Path.{◌≡◌, refl}
use mathlib.Core.Bool.{Bool, true, false, cond, not, ◌&&◌, ◌||◌}
use mathlib.Core.List.{List, [], ◌∷◌, ◌++◌}
use Prim.Native.Nat.{ℕ}
use native.Mathlib.Omega.{arith}
use lib.Dec.{eqb, leb}
use borrow.Author.Tests.{not-true}
use Rattle.line.proofs.Runs.{and_left, and_right}
use Rattle.text.specs.Classes.{same_text, matching}
use Rattle.text.proofs.Matching.{same-is}
use Rattle.frames.specs.Session.{sign_on, closing_sign_on, sign_on_to}
use Rattle.receiving.specs.declared.Hearing.{Hearing}
use Rattle.receiving.specs.declared.Hearing.TheVariants.{Drop, Hold, Restart, Empty, Line, Confirm, Frame, TooLong}
use Rattle.receiving.specs.Hearing.{listening, confirming, framing, hearing}
use Rattle.state.specs.Link.{is_wired}
use Rattle.meter.specs.Link.{optical_call, calls, closes}
use Rattle.meter.specs.SignOn.{signs_on_by, closes_by}

pub line-is : (mode count last c : ℕ) → hearing mode count last c ≡ Line → (eqb mode 0 ≡ true) × (eqb c 10 ≡ true)
unfolding hearing listening confirming framing
line-is mode count last c = go (eqb mode 0) (eqb mode 1)
  where
    listened : (p q r s : Bool) → cond p Restart (cond q Drop (cond r Line (cond s Empty Hold))) ≡ Line → r ≡ true
    listened true q r s h = absurd (let z : ◌≡◌ {A = ℕ} 0 1 = cc in omega arith)
    listened false true r s h = absurd (let z : ◌≡◌ {A = ℕ} 0 1 = cc in omega arith)
    listened false false true s h = refl
    listened false false false true h = absurd (let z : ◌≡◌ {A = ℕ} 0 1 = cc in omega arith)
    listened false false false false h = absurd (let z : ◌≡◌ {A = ℕ} 0 1 = cc in omega arith)

    collected : (p : Bool) → cond p Confirm Hold ≡ Line → ⊥
    collected true h = let z : ◌≡◌ {A = ℕ} 0 1 = cc in omega arith
    collected false h = let z : ◌≡◌ {A = ℕ} 0 1 = cc in omega arith

    framed : (p q r s : Bool) → cond p Frame (cond q Restart (cond r Drop (cond s TooLong Hold))) ≡ Line → ⊥
    framed true q r s h = let z : ◌≡◌ {A = ℕ} 0 1 = cc in omega arith
    framed false true r s h = let z : ◌≡◌ {A = ℕ} 0 1 = cc in omega arith
    framed false false true s h = let z : ◌≡◌ {A = ℕ} 0 1 = cc in omega arith
    framed false false false true h = let z : ◌≡◌ {A = ℕ} 0 1 = cc in omega arith
    framed false false false false h = let z : ◌≡◌ {A = ℕ} 0 1 = cc in omega arith

    go : (p q : Bool) → cond p (listening count c) (cond q (confirming count) (framing count last c)) ≡ Line → (p ≡ true) × (eqb c 10 ≡ true)
    go true q h = (refl, listened (eqb c 47) (eqb count 0) (eqb c 10) (leb 31 count) h)
    go false true h = absurd (collected (leb 5 count) h)
    go false false h = absurd (framed (not (eqb count 0) && eqb last 3) (eqb c 1) (eqb count 0) (leb 63 count) h)

pub closes-only : (link : ℕ) (held serial : List ℕ) → closes_by link held ≡ true → signs_on_by link held serial ≡ false
unfolding closes closing_sign_on calls
closes-only link held serial h =
    let line = same_text (held ++ (10 ∷ [])) (47 ∷ 67 ∷ 33 ∷ 13 ∷ 10 ∷ []) in
    rw (not-true (is_wired link) (and_left (not (is_wired link)) line h)) (other (same-is (held ++ (10 ∷ [])) (47 ∷ 67 ∷ 33 ∷ 13 ∷ 10 ∷ []) (and_right (not (is_wired link)) line h)))
  where
    other : held ++ (10 ∷ []) ≡ 47 ∷ 67 ∷ 33 ∷ 13 ∷ 10 ∷ [] → optical_call (held ++ (10 ∷ [])) serial ≡ false
    other e = unfold optical_call sign_on sign_on_to same_text matching in rw e
