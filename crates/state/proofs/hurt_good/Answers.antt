-- `state::hurt_good` meets its contract: each way out is the case of the definition that its tests name. Assumes nothing.
use Rattle.state.specs.WellFormed.{hurt_good}
use Rattle.std.proofs.Common.{eq-eqb, ne_eqb}
use Rattle.state.proofs.hurt_good.Goals as goal

pub returns-then-mark-eq1 : goal.returns-then-mark-eq1
unfolding hurt_good
returns-then-mark-eq1 c = rw (eq-eqb _ _ c.if-mark-eq1.true)

pub returns : goal.returns
unfolding hurt_good
returns c = rw (ne_eqb _ _ c.if-mark-eq1.false)
