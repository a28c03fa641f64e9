-- `session::messages::read_energy` meets its contract: each way out is the case of the definition that its tests name. Assumes nothing.
use borrow.Author.Tests.{eq-eqb, ne_eqb}
use Rattle.session.specs.Messages.{read_of}
use Rattle.commands.specs.Spoken.{good_fields, spoken, letters_of, data_of}
use Rattle.session.proofs.messages.read_energy.Goals as goal

pub returns-then-n-eq0 : goal.returns-then-n-eq0
unfolding read_of good_fields spoken letters_of data_of
returns-then-n-eq0 c = rw (eq-eqb _ _ c.if-n-eq0.true) c.read_total.ensures

pub returns : goal.returns
unfolding read_of good_fields spoken letters_of data_of
returns c = rw (ne_eqb _ _ c.if-n-eq0.false) c.read_zone.ensures
