-- `state::pieces::small_good` meets its contract: each way out is the case of the definition that its tests name. Assumes nothing.
use Rattle.state.specs.Pieces.{small_good}
use Rattle.state.proofs.pieces.small_good.Goals as goal

pub returns-then-factory_good : goal.returns-then-factory_good
unfolding small_good
returns-then-factory_good c =
    rw (← c.speed_good.ensures, c.if-mode-attempts.true, ← c.factory_good.ensures, c.if-factory_good.true, c.directions_good.ensures)

pub returns-else-factory_good : goal.returns-else-factory_good
unfolding small_good
returns-else-factory_good c = rw (← c.speed_good.ensures, c.if-mode-attempts.true, ← c.factory_good.ensures, c.if-factory_good.false)

pub returns-else-mode-attempts : goal.returns-else-mode-attempts
unfolding small_good
returns-else-mode-attempts c = rw (← c.speed_good.ensures, c.if-mode-attempts.false)
