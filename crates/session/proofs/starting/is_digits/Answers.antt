-- `session::starting::is_digits` meets its contract: one of another length is none. Assumes nothing.
use borrow.Author.Tests.{ne_eqb}
use Rattle.values.proofs.Rules.{no-digits}
use Rattle.session.proofs.starting.is_digits.Goals as goal

pub returns-else-s : goal.returns-else-s
returns-else-s g c = rw (ne_eqb _ _ c.if-s.false, no-digits g.row.N c.args.s.now c.if-s.false)
