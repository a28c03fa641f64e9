-- `session::messages::read_export` meets its contract: each way out is the case of the definition that its tests name. Assumes nothing.
use borrow.Author.Tests.{ne_eqb}
use Rattle.text.specs.Classes.{between}
use Rattle.values.specs.Family.{is_eqm}
use Rattle.values.specs.Registers.{good_zone}
use Rattle.session.specs.Messages.{read_of}
use Rattle.commands.specs.Spoken.{good_fields, spoken, letters_of, data_of}
use Rattle.session.proofs.Laws.{unbuilt, unsuited}
use Rattle.session.proofs.messages.read_export.Goals as goal

pub returns-in-0-default : goal.returns-in-0-default
unfolding good_zone between
returns-in-0-default c = let a = c.args in rw (unsuited a.tables a.family a.n c.in-0-default.is-0) (unbuilt _ _ _ _ _ c.read_zone_out.ensures)

pub returns-in_default-eq0 : goal.returns-in_default-eq0
unfolding read_of good_fields spoken letters_of data_of is_eqm
returns-in_default-eq0 c = rw (c.in_default-eq0.is-1, ne_eqb _ _ c.in_default-eq0.is-0.1) c.read_total_out.ensures

pub returns-in_default : goal.returns-in_default
unfolding read_of good_fields spoken letters_of data_of is_eqm
returns-in_default c = rw (ne_eqb _ _ c.in_default.is-1.1, ne_eqb _ _ c.in_default.is-0.1) c.read_zone_out-in_default.ensures
