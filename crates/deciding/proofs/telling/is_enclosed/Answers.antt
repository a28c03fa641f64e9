-- `deciding::telling::is_enclosed` meets its contract: each way out is the case of the definition that its tests name. Assumes nothing.
use Rattle.deciding.specs.Telling.{enclosed}
use borrow.Author.Rules.{rules}
use Rattle.deciding.proofs.telling.is_enclosed.Goals as goal

pub returns : goal.returns
unfolding enclosed
returns c = rw (c.at-closed.ensures, c.saturating_sub.ensures, c.at-2.ensures, c.at.ensures)
