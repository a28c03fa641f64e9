-- `meter::events::act` meets its contract: the event that the numbers tell is taken. Assumes nothing.
use borrow.Author.Rules.{rules}
use Rattle.meter.proofs.events.act.Goals as goal

pub take_event-requires : goal.take_event-requires
take_event-requires c = rw c.event_of.ensures c.requires

pub returns : goal.returns
returns c = record { result = rw (← c.event_of.ensures, c.take_event.ensures.result); held = rw (← c.event_of.ensures) c.take_event.ensures.held }
