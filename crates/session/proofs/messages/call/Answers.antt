-- `session::messages::call` meets its contract: each way out is the case of the definition that its tests name. Assumes nothing.
use borrow.Author.Tests.{eq-eqb, ne_eqb}
use Rattle.session.specs.Messages.{calling}
use Rattle.commands.specs.Messages.{text_of, good_message}
use Rattle.session.proofs.messages.call.Goals as goal

pub returns-then-s-eq1 : goal.returns-then-s-eq1
unfolding calling text_of good_message
returns-then-s-eq1 c = rw (eq-eqb _ _ c.if-s-eq1.true) c.sign_on_to.ensures

pub returns : goal.returns
unfolding calling text_of good_message
returns c = rw (ne_eqb _ _ c.if-s-eq1.false) c.sign_on.ensures
