-- The first damaged byte of a run, and of a run with one byte more. Assumes nothing.
use mathlib.Core.Path.{◌≡◌, refl, ap, ◌∙◌}
use mathlib.Core.Bool.{Bool, true, false, cond, not, ◌&&◌}
use mathlib.Core.List.{List, [], ◌∷◌, ◌++◌}
use Prim.Native.Nat.{ℕ, suc, ◌+◌, ◌<◌, ◌≤◌}
use native.Mathlib.Omega.{arith}
use native.Mathlib.Numerals.{add-one}
use lib.ListN.{length, get_or, drop, drop_of_length-le}
use Rattle.line.specs.Characters.{damaged_at, undamaged_at, undamaged_all}
use Rattle.line.specs.Runs.{every}
use Rattle.line.proofs.Runs.{left-next}
use Rattle.damage.specs.First.{first_damaged, HurtAt}

-- what a walk over the run keeps: the places passed, and where what is left is damaged
module _ (s : List ℕ) (i : ℕ) where
  pub first-here : i < length s → i + first_damaged (drop i s) ≡ first_damaged s → damaged_at (get_or s i 0) ≡ true → i ≡ first_damaged s
  unfolding first_damaged
  first-here h e d =
      let here : first_damaged (drop i s) ≡ 0 = ap first_damaged (left-next i s h) ∙ ap (λ (b : Bool). cond b 0 (first_damaged (drop (i + 1) s) + 1)) d in
      omega (arith, e, here)

  pub first_next : i < length s → i + first_damaged (drop i s) ≡ first_damaged s → damaged_at (get_or s i 0) ≡ false
      → (i + 1) + first_damaged (drop (i + 1) s) ≡ first_damaged s
  unfolding first_damaged
  first_next h e d =
      let next : first_damaged (drop i s) ≡ first_damaged (drop (i + 1) s) + 1 =
      ap first_damaged (left-next i s h) ∙ ap (λ (b : Bool). cond b 0 (first_damaged (drop (i + 1) s) + 1)) d in
      omega (arith, e, next)

  pub first-none : length s ≤ i → i + first_damaged (drop i s) ≡ first_damaged s → i ≡ first_damaged s
  unfolding first_damaged
  first-none h e =
      let none : first_damaged (drop i s) ≡ 0 = ap first_damaged (drop_of_length-le s h) in
      omega (arith, e, none)

-- where a byte is damaged at all, that is the place
pub first-hurt : (s : List ℕ) → undamaged_all s ≡ false → HurtAt s (first_damaged s)
unfolding undamaged_all every first_damaged
first-hurt [] h = absurd (let z : ◌≡◌ {A = ℕ} 0 1 = cc in omega arith)
first-hurt (b ∷ s) h = go (damaged_at b) refl h (first-hurt s)
  where
    go : (d : Bool) → damaged_at b ≡ d → (not d && every undamaged_at s) ≡ false → (every undamaged_at s ≡ false → HurtAt s (first_damaged s))
        → HurtAt (b ∷ s) (cond d 0 (first_damaged s + 1))
    go true e k rest = record { within = omega arith; damaged = e; before = refl }
    go false e k rest =
        rw (add-one (first_damaged s)) (record { within = omega (arith, (rest k).within); damaged = (rest k).damaged; before = rw e (rest k).before })

-- one byte more: a damaged one before it stays the first
pub first-append : (s : List ℕ) (b : ℕ) → first_damaged (s ++ (b ∷ [])) ≡ cond (undamaged_all s) (length s + cond (damaged_at b) 0 1) (first_damaged s)
unfolding undamaged_all every first_damaged
first-append [] b = go (damaged_at b)
  where
    go : (d : Bool) → cond d 0 (0 + 1) ≡ 0 + cond d 0 1
    go true = refl
    go false = refl
first-append (a ∷ s) b = go (damaged_at a) (every undamaged_at s) (first-append s b)
  where
    go : (d u : Bool) → first_damaged (s ++ (b ∷ [])) ≡ cond u (length s + cond (damaged_at b) 0 1) (first_damaged s)
        → cond d 0 (first_damaged (s ++ (b ∷ [])) + 1) ≡ cond (not d && u) (suc (length s) + cond (damaged_at b) 0 1) (cond d 0 (first_damaged s + 1))
    go true u e = refl
    go false true e = omega (arith, e)
    go false false e = ap (λ (n : ℕ). n + 1) e

pub undamaged-append : (s : List ℕ) (b : ℕ) → undamaged_all (s ++ (b ∷ [])) ≡ (undamaged_all s && not (damaged_at b))
unfolding undamaged_all every
undamaged-append [] b = go (not (damaged_at b))
  where
    go : (u : Bool) → (u && true) ≡ u
    go true = refl
    go false = refl
undamaged-append (a ∷ s) b = go (not (damaged_at a)) (undamaged-append s b)
  where
    go : (u : Bool) → every undamaged_at (s ++ (b ∷ [])) ≡ (every undamaged_at s && not (damaged_at b))
        → (u && every undamaged_at (s ++ (b ∷ []))) ≡ ((u && every undamaged_at s) && not (damaged_at b))
    go true e = e
    go false e = refl
