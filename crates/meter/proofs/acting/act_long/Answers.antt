-- `meter::acting::act_long` meets its contract: what is said is put there, and the rest follows from the deed. Assumes nothing.
use native.Mathlib.Omega.{arith}
use Rattle.values.proofs.Editions.{tables-most}
use borrow.Author.Rules.{rules}
use Rattle.meter.proofs.acting.act_long.Goals as goal

pub long_block-length-requires : goal.long_block-length-requires
long_block-length-requires c = (rw c.tables_of-tables.ensures.value ((tables-most c.args.s.plain.facts.edition, c.requires.0)), c.requires.1)

pub returns : goal.returns
returns c =
    let said = rw c.tables_of-tables.ensures.value at c.long_block-length.ensures in
    record { result = rw (c.answer_with.ensures, said.whole); held = said.held }
