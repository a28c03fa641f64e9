-- `storing::store` meets its contract: a well-formed meter's receiver and archive are as its callees ask. Assumes nothing.
use Rattle.state.proofs.Parts.{long}
use Rattle.state.proofs.Archives.{formed-archive}
use Rattle.meter.proofs.Known.{archive-good}
use Rattle.storing.proofs.store.Goals as goal

pub put_row-told-requires : goal.put_row-told-requires
put_row-told-requires c = (c.requires.1, (long c.args.m.now c.requires.0).held)

pub close_with-m-requires : goal.close_with-m-requires
close_with-m-requires c =
    let m = c.args.m.now in
    let a = formed-archive m.registers.facts.decimals m.registers.archive (archive-good m c.requires.0) in
    ((a.count, a.long), a.rest)
