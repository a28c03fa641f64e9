-- `meter::acting::start_long` meets its contract: the start with as many tables as the edition has. Assumes nothing.
use borrow.Author.Rules.{rules}
use Rattle.meter.proofs.acting.start_long.Goals as goal

pub returns : goal.returns
returns c =
    let said = rw c.tables_of.ensures.value at c.long_start.ensures in
    record { next = said.next; held = said.held }
