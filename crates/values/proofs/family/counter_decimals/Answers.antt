-- `values::family::counter_decimals` meets its contract: each arm is the case of the definition that it names. Assumes nothing.
use native.Mathlib.Omega.{arith}
use borrow.Author.Tests.{ne_eqb}
use Rattle.values.specs.Family.{counter_decimals}
use Rattle.values.proofs.family.counter_decimals.Goals as goal

pub returns-in-0-clause-value : goal.returns-in-0-clause-value
unfolding counter_decimals
returns-in-0-clause-value c = rw (c.in-0.is)

pub returns-in-2-clause-value : goal.returns-in-2-clause-value
unfolding counter_decimals
returns-in-2-clause-value c = rw (c.in-2.is)

pub returns-in-3-clause-value : goal.returns-in-3-clause-value
unfolding counter_decimals
returns-in-3-clause-value c = rw (c.in-3.is)

pub returns-in_default-clause-value : goal.returns-in_default-clause-value
unfolding counter_decimals
returns-in_default-clause-value c = rw (ne_eqb c.args.family 0 (λ e. omega (arith, e)), ne_eqb c.args.family 2 (λ e. omega (arith, e)), ne_eqb c.args.family 3 (λ e. omega (arith, e)))
