-- `receiving::frame` meets its contract: each way out is the case of the definition that its tests name. Assumes nothing.
use Rattle.receiving.specs.Hearing.{framing}
use borrow.Author.Tests.{eq-eqb, le-leb, lt-leb, ne_eqb}
use Rattle.receiving.proofs.frame.Goals as goal

pub returns-then-ended : goal.returns-then-ended
unfolding framing
returns-then-ended c = rw c.if-ended.true

pub returns-then-c-eq-SOH : goal.returns-then-c-eq-SOH
unfolding framing
returns-then-c-eq-SOH c = rw (c.if-ended.false, eq-eqb _ _ c.if-c-eq-SOH.true)

pub returns-then-count-eq0 : goal.returns-then-count-eq0
unfolding framing
returns-then-count-eq0 c = rw (c.if-ended.false, ne_eqb _ _ c.if-c-eq-SOH.false, eq-eqb _ _ c.if-count-eq0.true)

pub returns-then-count-ge-MOST_HELD : goal.returns-then-count-ge-MOST_HELD
unfolding framing
returns-then-count-ge-MOST_HELD c = rw (c.if-ended.false, ne_eqb _ _ c.if-c-eq-SOH.false, ne_eqb _ _ c.if-count-eq0.false, le-leb _ _ c.if-count-ge-MOST_HELD.true)

pub returns : goal.returns
unfolding framing
returns c = rw (c.if-ended.false, ne_eqb _ _ c.if-c-eq-SOH.false, ne_eqb _ _ c.if-count-eq0.false, lt-leb _ _ c.if-count-ge-MOST_HELD.false)
