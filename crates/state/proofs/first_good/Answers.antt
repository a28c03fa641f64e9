-- `state::first_good` meets its contract: each way out is the case of the definition that its tests name. Assumes nothing.
use Rattle.state.specs.WellFormed.{first_good}
use Rattle.std.proofs.Common.{eq-eqb, ne_eqb}
use Rattle.state.proofs.first_good.Goals as goal

pub returns-then-mode-eq0 : goal.returns-then-mode-eq0
unfolding first_good
returns-then-mode-eq0 c = rw (eq-eqb _ _ c.if-mode-eq0.true)

pub returns : goal.returns
unfolding first_good
returns c = rw (ne_eqb _ _ c.if-mode-eq0.false)
