-- `cardwriting::put_own` meets its contract: that of `put_card`. Assumes nothing.
use Rattle.cardwriting.proofs.put_own.Goals as goal

pub put_card-requires : goal.put_card-requires
put_card-requires c = c.requires

pub returns : goal.returns
returns c = c.put_card.ensures
