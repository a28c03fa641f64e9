-- `values::reading::three_above` meets its contract: three lanes of the pairs. Assumes nothing.
use Rattle.values.proofs.reading.three_above.Goals as goal

pub returns : goal.returns
returns c = rw c.pairs-p.ensures
