-- `meter::acting::perform` meets its contract: what is answered, and what is stored. Assumes nothing.
use Rattle.state.proofs.Parts.{long}
use Rattle.meter.proofs.Known.{archive-good}
use borrow.Author.Rules.{rules}
use Rattle.meter.proofs.acting.perform.Goals as goal

pub stored-requires : goal.stored-requires
stored-requires c =
    let m = c.args.m in
    rw c.act-a.ensures.result ((archive-good m c.requires.0.0, (c.requires.0.1, (long m c.requires.0.0).held)))

pub returns : goal.returns
returns c = let said = c.act-a.ensures in record { result = rw (c.stored.ensures, said.result); held = said.held }
