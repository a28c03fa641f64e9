-- `state::factory_good` meets its contract: each way out is the case of the definition that its tests name. Assumes nothing.
use Rattle.state.specs.WellFormed.{factory_good}
use Rattle.state.proofs.factory_good.Goals as goal

pub returns-then-is_account : goal.returns-then-is_account
unfolding factory_good
returns-then-is_account c =
    rw (← c.facts_good.ensures, c.if-facts_good.true, ← c.is_account.ensures, c.if-is_account.true, c.is_clock.ensures)

pub returns-else-is_account : goal.returns-else-is_account
unfolding factory_good
returns-else-is_account c = rw (← c.facts_good.ensures, c.if-facts_good.true, ← c.is_account.ensures, c.if-is_account.false)

pub returns-else-facts_good : goal.returns-else-facts_good
unfolding factory_good
returns-else-facts_good c = rw (← c.facts_good.ensures, c.if-facts_good.false)
