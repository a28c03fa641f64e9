-- An event that is heard, or the number of why it is not, as the rules order the tests. Assumes nothing.
use Rattle.std.proofs.Common.{◌≡◌, ℕ, Bool, true, false, cond, Option, Some, None, refl, ap, arith}
use Rattle.values.specs.Edition.{is_edition}
use Rattle.state.specs.declared.Meter.{Meter}
use Rattle.state.specs.WellFormed.{edition_of, well_formed}
use Rattle.meter.specs.declared.Unheard.{Unheard}
use Rattle.meter.specs.declared.Unheard.TheVariants.{NoEdition, BadState}
use Rattle.meter.specs.Outcomes.{Outcome, unheard, of_edition}
use Rattle.meter.specs.Unheard.{number_of, own_or, unheard_by}

module _ (m : Meter) (test : Bool) (w : Unheard) (o : Outcome) where
  -- what the event is refused for by itself, where the test says so
  abbrev own : Option Unheard
  own = cond test (Some w) None

  abbrev ruled : Outcome
  ruled = of_edition m (cond test (unheard (number_of w) m) (cond (well_formed m) o (unheard 14 m)))

  pub heard : None ≡ unheard_by m own → o ≡ ruled
  unfolding unheard_by
  heard h = go (is_edition (edition_of m)) test (well_formed m) h
    where
      go : (e t g : Bool) → None ≡ cond e (own_or (cond t (Some w) None) (cond g None (Some BadState))) (Some NoEdition)
          → o ≡ cond e (cond t (unheard (number_of w) m) (cond g o (unheard 14 m))) (unheard 16 m)
      go true true g k = absurd (let z : ◌≡◌ {A = ℕ} 0 1 = cc in omega arith)
      go true false true k = refl
      go true false false k = absurd (let z : ◌≡◌ {A = ℕ} 0 1 = cc in omega arith)
      go false t g k = absurd (let z : ◌≡◌ {A = ℕ} 0 1 = cc in omega arith)

  pub lost : (v : Unheard) → Some v ≡ unheard_by m own → unheard (number_of v) m ≡ ruled
  unfolding unheard_by number_of
  lost v h = go (is_edition (edition_of m)) test (well_formed m) h
    where
      go : (e t g : Bool) → Some v ≡ cond e (own_or (cond t (Some w) None) (cond g None (Some BadState))) (Some NoEdition)
          → unheard (number_of v) m ≡ cond e (cond t (unheard (number_of w) m) (cond g o (unheard 14 m))) (unheard 16 m)
      go true true g k = let same : v ≡ w = cc in ap (λ (u : Unheard). unheard (number_of u) m) same
      go true false true k = absurd (let z : ◌≡◌ {A = ℕ} 0 1 = cc in omega arith)
      go true false false k = let same : v ≡ BadState = cc in ap (λ (u : Unheard). unheard (number_of u) m) same
      go false t g k = let same : v ≡ NoEdition = cc in ap (λ (u : Unheard). unheard (number_of u) m) same

  -- what is known where it is heard
  pub fit : None ≡ unheard_by m own → (well_formed m ≡ true) × (test ≡ false)
  unfolding unheard_by
  fit h = go (is_edition (edition_of m)) test (well_formed m) h
    where
      go : (e t g : Bool) → None ≡ cond e (own_or (cond t (Some w) None) (cond g None (Some BadState))) (Some NoEdition) → (g ≡ true) × (t ≡ false)
      go true true g k = absurd (let z : ◌≡◌ {A = ℕ} 0 1 = cc in omega arith)
      go true false true k = (refl, refl)
      go true false false k = absurd (let z : ◌≡◌ {A = ℕ} 0 1 = cc in omega arith)
      go false t g k = absurd (let z : ◌≡◌ {A = ℕ} 0 1 = cc in omega arith)
