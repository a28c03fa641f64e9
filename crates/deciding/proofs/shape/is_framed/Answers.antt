-- `deciding::shape::is_framed` meets its contract: each way out is the case of the definition that its tests name. Assumes nothing.
use Rattle.deciding.specs.Shape.{framed_shape}
use Rattle.text.specs.Classes.{is_printable, between}
use borrow.Author.Rules.{rules}
use Rattle.deciding.proofs.shape.is_framed.Goals as goal

pub returns : goal.returns
unfolding framed_shape is_printable between
returns c = rw (c.all_between.ensures, c.content_of.ensures, c.start_good.ensures, c.at.ensures, c.at-last.ensures, c.saturating_sub.ensures)
