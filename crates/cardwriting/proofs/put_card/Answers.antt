-- `cardwriting::put_card` meets its contract: the account's field, and the tables' behind it. Assumes nothing.
use Rattle.cardwriting.proofs.Writing.{card-put}
use Rattle.cardwriting.proofs.put_card.Goals as goal

pub returns : goal.returns
returns c =
    let a = c.args in
    card-put a.account.now a.rows.now a.out.now _ _ _ a.tables _ c.requires.0 c.put-at.ensures.next c.put-at.ensures.held c.put.ensures.held c.put_fields.ensures
