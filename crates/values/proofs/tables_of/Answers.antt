-- `values::tables_of` meets its contract: each arm is the case of the definition that it names. Assumes nothing.
use native.Mathlib.Omega.{arith}
use borrow.Author.Tests.{ne_eqb}
use Rattle.values.specs.Edition.{tables_of}
use Rattle.values.proofs.tables_of.Goals as goal

pub returns-in-2-clause-value : goal.returns-in-2-clause-value
unfolding tables_of
returns-in-2-clause-value c = rw (c.in-2.is)

pub returns-in_default-clause-value : goal.returns-in_default-clause-value
unfolding tables_of
returns-in_default-clause-value c = rw (ne_eqb c.args.edition 2 (λ e. omega (arith, e)))
