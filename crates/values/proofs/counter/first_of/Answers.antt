-- `values::counter::first_of` meets its contract: the lanes of the first eight characters of each family's pattern. Assumes nothing.
use mathlib.Core.Path.{◌≡◌, sym, ap, ◌∙◌}
use mathlib.Core.Logic.{◌⊎◌, inl, inr}
use Prim.Native.Nat.{ℕ}
use native.Mathlib.Omega.{arith}
use borrow.Author.Tests.{ne_eqb}
use Rattle.eights.specs.Lanes.{lanes, least, common, spare}
use Rattle.values.specs.declared.counter.Form.{Form}
use Rattle.values.specs.Counters.{first_form}
use Rattle.values.proofs.Counters.{first-is}
use Rattle.values.proofs.counter.first_of.Goals as goal

-- two families share a form
shared : (family : ℕ) (f : Form) → f ≡ first_form 0 → f ≡ first_form 2 → (family ≡ 0) ⊎ (family ≡ 2) → f ≡ first_form family
shared family f one two (inl e) = one ∙ ap first_form (sym e)
shared family f one two (inr e) = two ∙ ap first_form (sym e)

pub returns-in-0 : goal.returns-in-0
unfolding lanes least common spare
returns-in-0 c = shared _ _ (first-is 0) (first-is 2) c.in-0.is

pub returns-in-3 : goal.returns-in-3
unfolding lanes least common spare
returns-in-3 c = first-is 3 ∙ ap first_form (sym c.in-3.is)

pub returns-in_default : goal.returns-in_default
unfolding lanes least common spare
returns-in_default c =
    let f = c.args.family in
    rw (ne_eqb f 0 (λ e. grind (arith, e)), ne_eqb f 2 (λ e. grind (arith, e)), ne_eqb f 3 (λ e. grind (arith, e))) at (first-is f)
