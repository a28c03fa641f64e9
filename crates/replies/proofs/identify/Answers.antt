-- `replies::identify` meets its contract: each way out is the case of the definition that its tests name. Assumes nothing.
use borrow.Author.Tests.{eq-eqb, ne_eqb}
use Rattle.replies.specs.Fixed.{identification}
use Rattle.replies.proofs.identify.Goals as goal

pub returns-then-edition-eq2 : goal.returns-then-edition-eq2
unfolding identification
returns-then-edition-eq2 c =
    let sent = c.send.ensures in
    rw (eq-eqb _ _ c.if-edition-eq2.true) (record { whole = sent.whole; held = sent.held })

pub returns : goal.returns
unfolding identification
returns c =
    let sent = c.send-2.ensures in
    rw (ne_eqb _ _ c.if-edition-eq2.false) (record { whole = sent.whole; held = sent.held })
