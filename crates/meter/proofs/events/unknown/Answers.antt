-- `meter::events::unknown` meets its contract: each way out is the case of the definition that its tests name. Assumes nothing.
use Rattle.meter.specs.Unheard.{number_of}
use Rattle.meter.specs.Life.{met}
use Rattle.meter.proofs.events.unknown.Goals as goal

pub returns-then-not-has_edition : goal.returns-then-not-has_edition
unfolding met number_of
returns-then-not-has_edition c = rw (← c.has_edition.ensures, c.if-not-has_edition.true, c.unheard_with.ensures, c.number.ensures)

pub returns : goal.returns
unfolding met number_of
returns c = rw (← c.has_edition.ensures, c.if-not-has_edition.false, c.unheard_with-2.ensures, c.number-2.ensures)
