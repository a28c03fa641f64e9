-- `session::starting::open_post` meets its contract: each way out is the case of the definition that its tests name. Assumes nothing.
use borrow.Author.Tests.{eq-eqb, ne_eqb}
use Rattle.text.specs.Writing.{holding}
use Rattle.session.specs.Starting.{opened_post}
use Rattle.session.proofs.starting.open_post.Goals as goal

pub returns-then-told-eq0 : goal.returns-then-told-eq0
unfolding opened_post holding
returns-then-told-eq0 c = record { result = rw (eq-eqb _ _ c.if-told-eq0.true); held = rw (eq-eqb _ _ c.if-told-eq0.true) }

pub returns : goal.returns
unfolding opened_post
returns c = record { result = rw (ne_eqb _ _ c.if-told-eq0.false) c.begin.ensures.result; held = rw (ne_eqb _ _ c.if-told-eq0.false) c.begin.ensures.held }
