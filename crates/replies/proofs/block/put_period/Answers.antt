-- `replies::block::put_period` meets its contract: its time, what came in, and where the family has it what went out behind it. Assumes nothing.
use mathlib.Core.Path.{sym, ◌∙◌}
use mathlib.Core.Bool.{true, false}
use native.Mathlib.Omega.{arith}
use Rattle.datasets.specs.Sets.{closed_set}
use Rattle.datasets.proofs.Lengths.{closed-line}
use Rattle.datasets.proofs.Joined.{single, joined}
use Rattle.replies.specs.Periods.{kept_sets, period_sets}
use Rattle.replies.proofs.Sizes.{both-put, came-put}
use Rattle.replies.proofs.Periods.{kept-most-of}
use Rattle.replies.proofs.block.put_period.Goals as goal

pub put_kept-requires : goal.put_kept-requires
put_kept-requires c =
    let a = c.args in
    omega (arith, c.requires, c.put_closed_set-a.ensures.next, c.put_kept-b.ensures.next, kept-most-of a.family false a.k a.p.zones)

pub returns-then-is_eqm : goal.returns-then-is_eqm
unfolding period_sets
returns-then-is_eqm c =
    let a = c.args in
    let time = c.put_closed_set-a.ensures in
    let came = c.put_kept-b.ensures in
    let went = c.put_kept.ensures in
    let closed = single (closed_set a.k a.p.closed) 26 a.buf.now a.at _ _ (closed-line a.k a.p.closed) time.next time.held in
    let both =
    both-put a.family (kept_sets a.family false a.k a.p.zones) (kept_sets a.family true a.k a.p.exported) _ _ _ _ _ _
    (sym c.is_eqm.ensures ∙ c.if-is_eqm.true) (record { next = came.next; held = came.held }) (record { next = went.next; held = went.held }) in
    let all = joined _ _ _ _ _ _ _ _ closed both in
    record { next = all.next; held = all.held }

pub returns : goal.returns
unfolding period_sets
returns c =
    let a = c.args in
    let time = c.put_closed_set-a.ensures in
    let came = c.put_kept-b.ensures in
    let closed = single (closed_set a.k a.p.closed) 26 a.buf.now a.at _ _ (closed-line a.k a.p.closed) time.next time.held in
    let alone =
    came-put a.family (kept_sets a.family false a.k a.p.zones) (kept_sets a.family true a.k a.p.exported) _ _ _ _
    (sym c.is_eqm.ensures ∙ c.if-is_eqm.false) (record { next = came.next; held = came.held }) in
    let all = joined _ _ _ _ _ _ _ _ closed alone in
    record { next = all.next; held = all.held }
