-- `meter::acting::archive_after` meets its contract: each way out is the case of the definition that its tests name. Assumes nothing.
use Rattle.state.proofs.Archives.{formed-archive}
use borrow.Author.Rules.{rules}
use Rattle.meter.proofs.acting.archive_after.Goals as goal

pub close_with-requires : goal.close_with-requires
close_with-requires c =
    let f = formed-archive c.args.g.facts.decimals c.args.g.archive c.requires in
    ((f.count, f.long), f.rest)

pub returns-then-closes : goal.returns-then-closes
returns-then-closes c = rw (← c.closes.ensures, c.if-closes.true, c.close_with.ensures)

pub returns : goal.returns
returns c = rw (← c.closes.ensures, c.if-closes.false)
