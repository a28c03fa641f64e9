-- `headlink::fields::tell` meets its contract: a short buffer is kept, another tells the value. Assumes nothing.
use Rattle.headlink.proofs.Telling.{kept, told}
use Rattle.headlink.proofs.fields.tell.Goals as goal

pub returns-then-out-characters : goal.returns-then-out-characters
returns-then-out-characters c = kept _ _ _ c.if-out-characters.true

pub returns : goal.returns
returns c = told _ _ _ _ _ c.if-out-characters.false c.number.ensures c.put.ensures.held
