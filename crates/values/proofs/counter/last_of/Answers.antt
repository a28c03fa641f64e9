-- `values::counter::last_of` meets its contract: the lanes of the last eight characters of each family's pattern. Assumes nothing.
use mathlib.Core.Path.{◌≡◌, sym, ap, ◌∙◌}
use mathlib.Core.Logic.{◌⊎◌, inl, inr}
use Prim.Native.Nat.{ℕ}
use native.Mathlib.Omega.{arith}
use borrow.Author.Tests.{ne_eqb}
use Rattle.eights.specs.Lanes.{lanes, least, common, spare}
use Rattle.values.specs.declared.counter.Form.{Form}
use Rattle.values.specs.Counters.{last_form}
use Rattle.values.proofs.Counters.{last-is}
use Rattle.values.proofs.counter.last_of.Goals as goal

-- two families share a form
shared : (family : ℕ) (f : Form) → f ≡ last_form 0 → f ≡ last_form 3 → (family ≡ 0) ⊎ (family ≡ 3) → f ≡ last_form family
shared family f one two (inl e) = one ∙ ap last_form (sym e)
shared family f one two (inr e) = two ∙ ap last_form (sym e)

pub returns-in-0 : goal.returns-in-0
unfolding lanes least common spare
returns-in-0 c = shared _ _ (last-is 0) (last-is 3) c.in-0.is

pub returns-in-2 : goal.returns-in-2
unfolding lanes least common spare
returns-in-2 c = last-is 2 ∙ ap last_form (sym c.in-2.is)

pub returns-in_default : goal.returns-in_default
unfolding lanes least common spare
returns-in_default c =
    let f = c.args.family in
    rw (ne_eqb f 0 (λ e. grind (arith, e)), ne_eqb f 2 (λ e. grind (arith, e)), ne_eqb f 3 (λ e. grind (arith, e))) at (last-is f)
