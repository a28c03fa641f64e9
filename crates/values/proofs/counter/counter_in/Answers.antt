-- `values::counter::counter_in` meets its contract: the pairs of both, above the least of their forms. Assumes nothing.
use Rattle.values.proofs.counter.counter_in.Goals as goal

pub pairs-requires : goal.pairs-requires
pairs-requires c = rw c.first_of-first.ensures c.requires.0

pub pairs-requires-2 : goal.pairs-requires-2
pairs-requires-2 c = rw c.last_of-last.ensures c.requires.1

pub returns : goal.returns
returns c =
    rw (c.counter_of.ensures, c.pairs-2.ensures, c.pairs.ensures, c.last_of-last.ensures, c.first_of-first.ensures)
