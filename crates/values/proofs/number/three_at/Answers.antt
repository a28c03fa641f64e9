-- `values::number::three_at` meets its contract: each way out is the case of the definition that its tests name. Assumes nothing.
use Rattle.values.proofs.number.three_at.Goals as goal

pub returns : goal.returns
returns c = rw (c.two-a.ensures, c.two-b.ensures, c.two-c.ensures)
