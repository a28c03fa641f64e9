-- `values::family::counter_end` meets its contract: each arm is the case of the definition that it names. Assumes nothing.
use native.Mathlib.Omega.{arith}
use borrow.Author.Tests.{ne_eqb}
use Rattle.values.specs.Family.{counter_end}
use Rattle.values.proofs.family.counter_end.Goals as goal

pub returns-in-0-clause-value : goal.returns-in-0-clause-value
unfolding counter_end
returns-in-0-clause-value c = rw (c.in-0.is)

pub returns-in_default-clause-value : goal.returns-in_default-clause-value
unfolding counter_end
returns-in_default-clause-value c = rw (ne_eqb c.args.family 0 (λ e. omega (arith, e)))
