-- `session::turning::end` meets its contract. Assumes nothing.
use Rattle.session.proofs.turning.end.Goals as goal

pub returns : goal.returns
returns c = rw (c.stand.ensures, c.number.ensures)
