-- `state::pieces::receiver_good` meets its contract: each way out is the case of the definition that its tests name. Assumes nothing.
use Rattle.state.specs.WellFormed.{receiver_good, mark_good}
use Rattle.std.proofs.Common.{arith, le-leb}
use borrow.Author.Tests.{lt-leb}
use Rattle.state.proofs.Limits.{limit-most}
use Rattle.state.proofs.pieces.receiver_good.Goals as goal

pub held_good-requires : goal.held_good-requires
held_good-requires c =
    let most = limit-most c.args.mode in
    omega (arith, c.if-count-limit_of.true, c.limit_of.ensures, most)

pub returns-then-marked-hurt_good : goal.returns-then-marked-hurt_good
unfolding receiver_good mark_good
returns-then-marked-hurt_good c =
    rw (← c.limit_of.ensures, le-leb _ _ c.if-count-limit_of.true, ← c.first_good.ensures, c.if-first_good.true, ← c.hurt_good.ensures, c.if-marked-hurt_good.true, c.held_good.ensures)

pub returns-else-marked-hurt_good : goal.returns-else-marked-hurt_good
unfolding receiver_good mark_good
returns-else-marked-hurt_good c =
    rw (← c.limit_of.ensures, le-leb _ _ c.if-count-limit_of.true, ← c.first_good.ensures, c.if-first_good.true, ← c.hurt_good.ensures, c.if-marked-hurt_good.false)

pub returns-else-first_good : goal.returns-else-first_good
unfolding receiver_good mark_good
returns-else-first_good c =
    rw (← c.limit_of.ensures, le-leb _ _ c.if-count-limit_of.true, ← c.first_good.ensures, c.if-first_good.false)

pub returns-else-count-limit_of : goal.returns-else-count-limit_of
unfolding receiver_good mark_good
returns-else-count-limit_of c = rw (← c.limit_of.ensures, lt-leb _ _ c.if-count-limit_of.false)
