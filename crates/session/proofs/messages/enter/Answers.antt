-- `session::messages::enter` meets its contract: each way out is the case of the definition that its tests name. Assumes nothing.
use borrow.Author.Tests.{eq-eqb, ne_eqb}
use Rattle.session.specs.Messages.{entering}
use Rattle.commands.specs.Messages.{text_of, good_message}
use Rattle.commands.specs.Spoken.{good_fields, spoken, letters_of, data_of}
use Rattle.session.proofs.messages.enter.Goals as goal

pub returns-then-s-eq1 : goal.returns-then-s-eq1
unfolding entering text_of good_message good_fields spoken letters_of data_of
returns-then-s-eq1 c = rw (eq-eqb _ _ c.if-s-eq1.true) c.password.ensures

pub returns : goal.returns
unfolding entering text_of good_message good_fields spoken letters_of data_of
returns c = rw (ne_eqb _ _ c.if-s-eq1.false) c.enter.ensures
