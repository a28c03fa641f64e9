-- `cardwriting::put_field` meets its contract: four bytes, and the row behind them. Assumes nothing.
use Rattle.cardwriting.proofs.Writing.{field_put}
use Rattle.cardwriting.proofs.put_field.Goals as goal

pub returns : goal.returns
returns c =
    let a = c.args in field_put a.rows.now a.out.now _ a.i _ _ c.requires.0 c.requires.1 c.put-at.ensures.next c.put-at.ensures.held c.put.ensures.held
