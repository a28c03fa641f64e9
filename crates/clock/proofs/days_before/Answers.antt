-- `clock::days_before` meets its contract: the product is tried of each month. Assumes nothing.
use Rattle.clock.specs.Weekday.{days_before}
use mathlib.Core.Path.{◌≡◌, refl, sym, ap, ◌∙◌}
use mathlib.Core.Bool.{Bool, cond}
use Prim.Native.Nat.{ℕ, ◌+◌, ◌-◌, ◌*◌, ◌/◌, ◌<◌, ◌≤◌}
use native.Mathlib.Omega.{arith}
use lib.Dec.{eqb, ltb}
use lib.ListN.{get_or, get_or-eq_default}
use borrow.Author.Tests.{eqb-true, lt-ltb, le-ltb}
use Rattle.line.proofs.Runs.{below_all}
use Rattle.clock.proofs.days_before.Goals as goal

reckoned : ℕ → ℕ
reckoned k = cond (ltb k 2) (k * 31) ((k * 367 + 5) / 12 - 2)

fits : ℕ → Bool
fits k = eqb (reckoned k) (get_or days_before k 0)

in-year : (k : ℕ) → k < 12 → reckoned k ≡ get_or days_before k 0
unfolding days_before fits reckoned
in-year k h = eqb-true _ _ (below_all 12 fits refl k h)

early : (k : ℕ) → k < 2 → k * 31 ≡ get_or days_before k 0
unfolding reckoned
early k h = rw (lt-ltb k 2 h) at (in-year k (omega arith))

late : (k : ℕ) → 2 ≤ k → k < 12 → (k * 367 + 5) / 12 - 2 ≡ get_or days_before k 0
unfolding reckoned
late k h few = rw (le-ltb k 2 h) at (in-year k few)

pub returns-then-k-lt2 : goal.returns-then-k-lt2
returns-then-k-lt2 c = rw (← c.saturating_sub-k.ensures) (early _ c.if-k-lt2.true)

pub returns-then-k-lt12 : goal.returns-then-k-lt12
returns-then-k-lt12 c = rw (← c.saturating_sub-k.ensures) (late _ c.if-k-lt2.false c.if-k-lt12.true)

pub returns : goal.returns
unfolding days_before
returns c = sym (ap (λ (k : ℕ). get_or days_before k 0) (sym c.saturating_sub-k.ensures) ∙ get_or-eq_default days_before 0 c.if-k-lt12.false)
