-- `whole::held_slowly` meets its contract: what is held so far, with what is left, gives what the whole does. Assumes nothing.
use Rattle.std.proofs.Common.{arith, sym, ◌∙◌}
use Rattle.whole.specs.Gathering.{held_over}
use Rattle.whole.proofs.Gathering.{after_turn, after-end, after-none, some_held, none_held, held-some}
use Rattle.whole.proofs.held_slowly.Goals as goal

pub loop-b-init : goal.loop-b-init
unfolding held_over
loop-b-init c = (omega arith, rw c.rest-rest.ensures.result_value)

pub returns-in_err-held : goal.returns-in_err-held
returns-in_err-held c =
    let l = c.loop-b in
    let none = none_held _ (sym c.in_err-held.was ∙ c.hold.ensures) in
    rw (c.from_residual.ensures, after-none c.rest-rest.result.now l.b-index l.held l.before _ (omega arith) l.invariant.1 none)

pub loop-b-preserved : goal.loop-b-preserved
loop-b-preserved c =
    let l = c.loop-b in
    let next = some_held _ _ (sym c.in_ok-held.was ∙ c.hold.ensures) in
    (next.1, rw (← next.0) (after_turn c.rest-rest.result.now l.b-index l.held l.before _ (omega arith) l.invariant.1))

pub returns : goal.returns
returns c =
    let l = c.loop-b in
    rw (← after-end c.rest-rest.result.now l.b-index l.held l.before _ (omega arith) l.invariant.1) (held-some l.held l.invariant.0)
