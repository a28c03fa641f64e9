-- `session::starting::open_reads` meets its contract: each way out is the case of the definition that its tests name. Assumes nothing.
use borrow.Author.Tests.{eq-eqb, ne_eqb, lt-ltb, le-ltb}
use Rattle.text.specs.Writing.{holding}
use Rattle.session.specs.Starting.{opened_reads}
use Rattle.session.proofs.starting.open_reads.Goals as goal

pub returns-then-n-eq0 : goal.returns-then-n-eq0
unfolding opened_reads holding
returns-then-n-eq0 c = record { result = rw (eq-eqb _ _ c.if-n-eq0.true); held = rw (eq-eqb _ _ c.if-n-eq0.true) }

pub returns-then-n-gt-READS : goal.returns-then-n-gt-READS
unfolding opened_reads holding
returns-then-n-gt-READS c = record { result = rw (ne_eqb _ _ c.if-n-eq0.false, lt-ltb _ _ c.if-n-gt-READS.true); held = rw (ne_eqb _ _ c.if-n-eq0.false, lt-ltb _ _ c.if-n-gt-READS.true) }

pub returns : goal.returns
unfolding opened_reads
returns c = record { result = rw (ne_eqb _ _ c.if-n-eq0.false, le-ltb _ _ c.if-n-gt-READS.false, ← c.tables_of.ensures.value, ← c.reads_good-good.ensures) c.begin.ensures.result; held = rw (ne_eqb _ _ c.if-n-eq0.false, le-ltb _ _ c.if-n-gt-READS.false, ← c.tables_of.ensures.value, ← c.reads_good-good.ensures) c.begin.ensures.held }
