-- A number that names an energy, or none. Assumes nothing.
use Rattle.std.proofs.Common.{◌≡◌, ℕ, Bool, true, false, cond, ltb, Option, Some, None, refl, ap, arith}
use Rattle.values.specs.declared.Energy.{Energy}
use Rattle.deciding.specs.Verdicts.{Verdict}
use Rattle.deciding.specs.Asking.{energy_at, energy_meant}

module _ (f : Energy → Verdict) (other : Verdict) where
  pub is_meant : (n : ℕ) (e : Energy) → Some e ≡ energy_meant n → f e ≡ cond (ltb n 5) (f (energy_at n)) other
  unfolding energy_meant
  is_meant n e h = go (ltb n 5) h
    where
      go : (b : Bool) → Some e ≡ cond b (Some (energy_at n)) None → f e ≡ cond b (f (energy_at n)) other
      go true k = let same : e ≡ energy_at n = cc in ap f same
      go false k = absurd (let z : ◌≡◌ {A = ℕ} 0 1 = cc in omega arith)

  pub not_meant : (n : ℕ) → None ≡ energy_meant n → other ≡ cond (ltb n 5) (f (energy_at n)) other
  unfolding energy_meant
  not_meant n h = go (ltb n 5) h
    where
      go : (b : Bool) → None ≡ cond b (Some (energy_at n)) None → other ≡ cond b (f (energy_at n)) other
      go true k = absurd (let z : ◌≡◌ {A = ℕ} 0 1 = cc in omega arith)
      go false k = refl
