-- `receiving::hold` meets its contract: each way out is the case of the definition that its tests name. Assumes nothing.
use Rattle.std.proofs.Common.{◌≡◌, length, arith, rules}
use Rattle.receiving.specs.Receivers.{held_after}
use Rattle.receiving.proofs.Laws.{set_past}
use Rattle.receiving.proofs.hold.Goals as goal

pub returns-in-Same : goal.returns-in-Same
unfolding held_after
returns-in-Same c = rw c.in-Same.is

pub returns-then-at-lt-HELD_PLACES : goal.returns-then-at-lt-HELD_PLACES
unfolding held_after
returns-then-at-lt-HELD_PLACES c = rw c.in-More.is

pub returns-else-at-lt-HELD_PLACES : goal.returns-else-at-lt-HELD_PLACES
unfolding held_after
returns-else-at-lt-HELD_PLACES c =
    let s = c.args.held.now in
    let long : length s ≡ 64 = search rules in
    rw c.in-More.is (set_past s c.in-More.at c.in-More.c (omega (arith, long, c.if-at-lt-HELD_PLACES.false)))

pub returns-in-Anew : goal.returns-in-Anew
unfolding held_after
returns-in-Anew c = rw c.in-Anew.is
