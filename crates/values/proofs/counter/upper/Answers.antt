-- `values::counter::upper` meets its contract: each arm is the case of the definition that it names. Assumes nothing.
use native.Mathlib.Omega.{arith}
use borrow.Author.Tests.{ne_eqb}
use Rattle.values.specs.Counters.{upper_of}
use Rattle.values.proofs.counter.upper.Goals as goal

pub returns-in-0 : goal.returns-in-0
unfolding upper_of
returns-in-0 c = (rw c.in-0.is, omega arith)

pub returns-in-2 : goal.returns-in-2
unfolding upper_of
returns-in-2 c = (rw c.in-2.is, omega arith)

pub returns-in-3 : goal.returns-in-3
unfolding upper_of
returns-in-3 c = (rw c.in-3.is, omega arith)

pub returns-in_default : goal.returns-in_default
unfolding upper_of
returns-in_default c = (rw (ne_eqb c.args.family 0 (λ e. omega (arith, e)), ne_eqb c.args.family 2 (λ e. omega (arith, e)), ne_eqb c.args.family 3 (λ e. omega (arith, e))), omega arith)
