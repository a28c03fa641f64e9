-- `receiving::listen` meets its contract: each way out is the case of the definition that its tests name. Assumes nothing.
use Rattle.receiving.specs.Hearing.{listening}
use borrow.Author.Tests.{eq-eqb, le-leb, lt-leb, ne_eqb}
use Rattle.receiving.proofs.listen.Goals as goal

pub returns-then-c-eq47 : goal.returns-then-c-eq47
unfolding listening
returns-then-c-eq47 c = rw (eq-eqb _ _ c.if-c-eq47.true)

pub returns-then-count-eq0 : goal.returns-then-count-eq0
unfolding listening
returns-then-count-eq0 c = rw (ne_eqb _ _ c.if-c-eq47.false, eq-eqb _ _ c.if-count-eq0.true)

pub returns-then-c-eq-LF : goal.returns-then-c-eq-LF
unfolding listening
returns-then-c-eq-LF c = rw (ne_eqb _ _ c.if-c-eq47.false, ne_eqb _ _ c.if-count-eq0.false, eq-eqb _ _ c.if-c-eq-LF.true)

pub returns-then-count-ge31 : goal.returns-then-count-ge31
unfolding listening
returns-then-count-ge31 c = rw (ne_eqb _ _ c.if-c-eq47.false, ne_eqb _ _ c.if-count-eq0.false, ne_eqb _ _ c.if-c-eq-LF.false, le-leb _ _ c.if-count-ge31.true)

pub returns : goal.returns
unfolding listening
returns c = rw (ne_eqb _ _ c.if-c-eq47.false, ne_eqb _ _ c.if-count-eq0.false, ne_eqb _ _ c.if-c-eq-LF.false, lt-leb _ _ c.if-count-ge31.false)
