-- `replies::lent_periods` meets its contract: so far the lines of the first i periods are put in. Assumes nothing.
use mathlib.Core.Path.{◌≡◌, refl, ◌∙◌}
use Prim.Native.Nat.{◌<◌}
use native.Mathlib.Omega.{arith}
use lib.ListN.{length}
use Rattle.text.proofs.Writing.{length-stored}
use Rattle.state.specs.Closing.{periods_of}
use Rattle.replies.proofs.Periods.{period-within, no-period, next-period}
use borrow.Author.Rules.{rules}
use Rattle.replies.proofs.lent_periods.Goals as goal

pub loop-i-init : goal.loop-i-init
loop-i-init c =
    let a = c.args in
    (omega arith, refl, no-period a.family a.a.now.periods a.buf.now a.at)

pub loop-i-preserved : goal.loop-i-preserved
loop-i-preserved c =
    let a = c.args in
    let turn = c.loop-i in
    let taken = c.loop-i-test.true in
    let put = c.put_period-place.ensures in
    let all : length a.a.now.periods ≡ 12 = search rules in
    let there : turn.i < length a.a.now.periods = omega (arith, all, c.requires.0, taken) in (
      omega (arith, turn.invariant.0, period-within a.family a.a.now.periods _ turn.i turn.place _ put.next),
      rw put.held (length-stored _ _ _ ∙ turn.invariant.1),
      next-period a.family a.a.now.periods _ a.buf.now a.at turn.i turn.place turn.buf _ _ there turn.invariant.2 put.next put.held,
    )

pub returns : goal.returns
unfolding periods_of
returns c =
    let turn = c.loop-i in
    let done : turn.i ≡ c.args.a.now.count = omega (arith, turn.auto.i-end, c.loop-i-test.false) in
    (rw done at turn.invariant.2.next, rw done at turn.invariant.2.held)
