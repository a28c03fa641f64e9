-- `meter::deeds::of_small` meets its contract: each way out is the case of the definition that its tests name. Assumes nothing.
use borrow.Author.Rules.{rules}
use Rattle.meter.proofs.deeds.of_small.Goals as goal

pub of_event-requires : goal.of_event-requires
of_event-requires c =
    rw c.standing_in.ensures c.requires

pub returns : goal.returns
returns c = rw (c.of_event.ensures, c.standing_in.ensures)
