-- `session::standing::is_good` meets its contract: the tests of the definition, each by itself. Assumes nothing.
use Rattle.session.specs.Standing.{session_good}
use Rattle.session.proofs.standing.is_good.Goals as goal

pub returns : goal.returns
unfolding session_good
returns c = rw (c.is_told.ensures, c.work_good.ensures, c.tables_of-tables.ensures.value, c.place_good.ensures, c.fact_good.ensures)
