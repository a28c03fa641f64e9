-- A meter of any edition has 24 tables or 25; and what the test of an edition says, either way. Assumes nothing.
use mathlib.Core.Path.{◌≡◌, sym, ap, ◌∙◌}
use mathlib.Core.Bool.{Bool, true, false, cond}
use Prim.Native.Nat.{ℕ, ◌≤◌}
use native.Mathlib.Omega.{arith}
use lib.Dec.{eqb}
use Rattle.values.specs.Edition.{is_edition, tables_of}

most-of : (two : Bool) → cond two 25 24 ≤ 25
most-of true = omega arith
most-of false = omega arith

least-of : (two : Bool) → 24 ≤ cond two 25 24
least-of true = omega arith
least-of false = omega arith

pub tables-most : (e : ℕ) → tables_of e ≤ 25
unfolding tables_of
tables-most e = most-of (eqb e 2)

pub tables-least : (e : ℕ) → 24 ≤ tables_of e
unfolding tables_of
tables-least e = least-of (eqb e 2)

differ : true ≡ false → ◌≡◌ {A = ℕ} 1 0
differ h = ap (λ (b : Bool). cond b 1 0) h

-- a test that said yes, and one that said no
pub is_one : (e : ℕ) (b : Bool) → b ≡ is_edition e → b ≡ true → is_edition e ≡ false → ⊥
is_one e b h t f = omega (arith, differ (sym t ∙ h ∙ f))

pub is_none : (e : ℕ) (b : Bool) → b ≡ is_edition e → b ≡ false → is_edition e ≡ true → ⊥
is_none e b h f t = omega (arith, differ (sym t ∙ sym h ∙ f))
