-- `deciding::shape::is_bare` meets its contract: each way out is the case of the definition that its tests name. Assumes nothing.
use Rattle.deciding.specs.Shape.{bare_shape}
use borrow.Author.Rules.{rules}
use Rattle.deciding.proofs.shape.is_bare.Goals as goal

pub returns : goal.returns
unfolding bare_shape
returns c = rw (c.start_good.ensures, c.at.ensures)
