-- `state::pieces::runs_good` meets its contract: each test is the definition's. Assumes nothing.
use Rattle.state.specs.Pieces.{runs_good}
use Rattle.state.proofs.pieces.runs_good.Goals as goal

pub tables_good-requires : goal.tables_good-requires
tables_good-requires c = c.tables_of.ensures.few

pub returns : goal.returns
unfolding runs_good
returns c = rw (c.tables_good.ensures, c.tables_of.ensures.value, c.receiver_good.ensures)
