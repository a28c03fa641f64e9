-- `deciding::shape::start_good` meets its contract: each way out is the case of the definition that its tests name. Assumes nothing.
use Rattle.deciding.specs.Shape.{start_good}
use Rattle.text.specs.Classes.{is_printable, between}
use borrow.Author.Rules.{rules}
use Rattle.deciding.proofs.shape.start_good.Goals as goal

pub returns : goal.returns
unfolding start_good is_printable between
returns c = rw (c.at-a.ensures, c.at-b.ensures, c.at.ensures)
