-- What a held, restarting or emptying character leaves is well-formed again. Assumes nothing.
use mathlib.Core.Path.{◌≡◌, refl, ap}
use mathlib.Core.Bool.{Bool, true, false, cond, not, ◌&&◌, ◌||◌}
use mathlib.Core.Logic.{◌⊎◌, inl, inr}
use mathlib.Core.List.{List, [], ◌∷◌}
use Prim.Native.Nat.{ℕ, zero, suc, ◌<◌, ◌≤◌}
use native.Mathlib.Omega.{arith}
use borrow.Author.Tests.{leb-false, eqb-true, eqb-false}
use lib.Dec.{eqb, leb}
use lib.ListN.{length, set}
use Rattle.state.specs.WellFormed.{limit, first_good}
use Rattle.receiving.specs.declared.Hearing.TheVariants.{Drop, Hold, Restart, Empty, Line, Confirm, Frame, TooLong}
use Rattle.receiving.specs.Hearing.{listening, confirming, framing, hearing}

-- a character is held only while there is room, and in modes other than 1 only after another
pub record Room (mode count : ℕ) : Type 0 where
  pub below : count < limit mode
  pub started : (count ≡ 0 → ⊥) ⊎ (mode ≡ 1)

hold-listening : (count c : ℕ) → listening count c ≡ Hold → (count < 31) × (count ≡ 0 → ⊥)
unfolding listening
hold-listening count c e = go (eqb c 47) (eqb count 0) refl (eqb c 10) (leb 31 count) refl e
  where
    go : (p q : Bool) → eqb count 0 ≡ q → (r s : Bool) → leb 31 count ≡ s
        → cond p Restart (cond q Drop (cond r Line (cond s Empty Hold))) ≡ Hold → (count < 31) × (count ≡ 0 → ⊥)
    go true q a r s b h = absurd (let z : ◌≡◌ {A = ℕ} 0 1 = cc in omega arith)
    go false true a r s b h = absurd (let z : ◌≡◌ {A = ℕ} 0 1 = cc in omega arith)
    go false false a true s b h = absurd (let z : ◌≡◌ {A = ℕ} 0 1 = cc in omega arith)
    go false false a false true b h = absurd (let z : ◌≡◌ {A = ℕ} 0 1 = cc in omega arith)
    go false false a false false b h = (leb-false 31 count b, eqb-false count 0 a)

hold-framing : (count last c : ℕ) → framing count last c ≡ Hold → (count < 63) × (count ≡ 0 → ⊥)
unfolding framing
hold-framing count last c e = go (not (eqb count 0) && eqb last 3) (eqb c 1) (eqb count 0) refl (leb 63 count) refl e
  where
    go : (p r q : Bool) → eqb count 0 ≡ q → (s : Bool) → leb 63 count ≡ s
        → cond p Frame (cond r Restart (cond q Drop (cond s TooLong Hold))) ≡ Hold → (count < 63) × (count ≡ 0 → ⊥)
    go true r q a s b h = absurd (let z : ◌≡◌ {A = ℕ} 0 1 = cc in omega arith)
    go false true q a s b h = absurd (let z : ◌≡◌ {A = ℕ} 0 1 = cc in omega arith)
    go false false true a s b h = absurd (let z : ◌≡◌ {A = ℕ} 0 1 = cc in omega arith)
    go false false false a true b h = absurd (let z : ◌≡◌ {A = ℕ} 0 1 = cc in omega arith)
    go false false false a false b h = (leb-false 63 count b, eqb-false count 0 a)

hold-confirming : (count : ℕ) → confirming count ≡ Hold → count < 5
unfolding confirming
hold-confirming count e = go (leb 5 count) refl e
  where
    go : (p : Bool) → leb 5 count ≡ p → cond p Confirm Hold ≡ Hold → count < 5
    go true a h = absurd (let z : ◌≡◌ {A = ℕ} 0 1 = cc in omega arith)
    go false a h = leb-false 5 count a

pub hold-room : (mode count last c : ℕ) → hearing mode count last c ≡ Hold → Room mode count
unfolding hearing
hold-room mode count last c e = go (eqb mode 0) refl (eqb mode 1) refl e
  where
    go : (p : Bool) → eqb mode 0 ≡ p → (q : Bool) → eqb mode 1 ≡ q
        → cond p (listening count c) (cond q (confirming count) (framing count last c)) ≡ Hold → Room mode count
    go true a q b h = let f = hold-listening count c h in record { below = unfold limit in (rw a f.0); started = inl f.1 }
    go false a true b h = record { below = unfold limit in (rw (a, b) (hold-confirming count h)); started = inr (eqb-true mode 1 b) }
    go false a false b h = let f = hold-framing count last c h in record { below = unfold limit in (rw (a, b) f.0); started = inl f.1 }

-- a character restarts only as '/' in mode 0, as SOH in modes 2 to 4
pub restart-first : (mode count last c : ℕ) → hearing mode count last c ≡ Restart → first_good mode 1 c ≡ true
unfolding hearing first_good
restart-first mode count last c e = go (eqb mode 0) (eqb mode 1) e
  where
    listened : (p : Bool) → eqb c 47 ≡ p → (q r s : Bool) → cond p Restart (cond q Drop (cond r Line (cond s Empty Hold))) ≡ Restart → eqb c 47 ≡ true
    listened true a q r s h = a
    listened false a true r s h = absurd (let z : ◌≡◌ {A = ℕ} 0 1 = cc in omega arith)
    listened false a false true s h = absurd (let z : ◌≡◌ {A = ℕ} 0 1 = cc in omega arith)
    listened false a false false true h = absurd (let z : ◌≡◌ {A = ℕ} 0 1 = cc in omega arith)
    listened false a false false false h = absurd (let z : ◌≡◌ {A = ℕ} 0 1 = cc in omega arith)

    framed : (p r : Bool) → eqb c 1 ≡ r → (q s : Bool) → cond p Frame (cond r Restart (cond q Drop (cond s TooLong Hold))) ≡ Restart → eqb c 1 ≡ true
    framed true r a q s h = absurd (let z : ◌≡◌ {A = ℕ} 0 1 = cc in omega arith)
    framed false true a q s h = a
    framed false false a true s h = absurd (let z : ◌≡◌ {A = ℕ} 0 1 = cc in omega arith)
    framed false false a false true h = absurd (let z : ◌≡◌ {A = ℕ} 0 1 = cc in omega arith)
    framed false false a false false h = absurd (let z : ◌≡◌ {A = ℕ} 0 1 = cc in omega arith)

    collected : (p : Bool) → cond p Confirm Hold ≡ Restart → ⊥
    collected true h = let z : ◌≡◌ {A = ℕ} 0 1 = cc in omega arith
    collected false h = let z : ◌≡◌ {A = ℕ} 0 1 = cc in omega arith

    go : (p q : Bool) → cond p (listening count c) (cond q (confirming count) (framing count last c)) ≡ Restart
        → cond p (false || eqb c 47) (false || (q || eqb c 1)) ≡ true
    go true q h = unfold listening in (listened (eqb c 47) refl (eqb count 0) (eqb c 10) (leb 31 count) h)
    go false true h = refl
    go false false h = unfold framing in (framed (not (eqb count 0) && eqb last 3) (eqb c 1) refl (eqb count 0) (leb 63 count) h)

-- a place that is not there: nothing changes
pub set_past : (s : List ℕ) (at c : ℕ) → length s ≤ at → s ≡ set s at c
set_past [] at c h = refl
set_past (x ∷ s) zero c h = absurd (omega (arith, h))
set_past (x ∷ s) (suc at) c h = ap (x ∷◌) (set_past s at c (omega (arith, h)))
