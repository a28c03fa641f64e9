-- `judging::tells_energy` meets its contract: each way out is the case of the name that its test names. Assumes nothing.
use borrow.Author.Tests.{eq-eqb, ne_eqb}
use Rattle.text.specs.Decimal.{decimal}
use Rattle.values.specs.Family.{import_name}
use Rattle.judging.specs.Right.{tells_energy}
use Rattle.judging.proofs.tells_energy.Goals as goal

pub returns-then-family-eq0 : goal.returns-then-family-eq0
unfolding tells_energy import_name decimal
returns-then-family-eq0 c = rw (eq-eqb _ _ c.if-family-eq0.true) c.tells_counter.ensures

pub returns : goal.returns
unfolding tells_energy import_name decimal
returns c = rw (ne_eqb _ _ c.if-family-eq0.false) c.tells_counter-2.ensures
