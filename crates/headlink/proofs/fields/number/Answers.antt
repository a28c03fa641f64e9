-- `headlink::fields::number` meets its contract. Assumes nothing.
use Rattle.headlink.specs.Telling.{value_number}
use Rattle.headlink.proofs.fields.number.Goals as goal

pub returns-then-ok : goal.returns-then-ok
unfolding value_number
returns-then-ok c =
    rw c.if-ok.true

pub returns-else-ok : goal.returns-else-ok
unfolding value_number
returns-else-ok c =
    rw c.if-ok.false
