-- `whole::held_in` meets its contract: what is held before the last byte, and what that byte makes of it. Assumes nothing.
use Rattle.std.proofs.Common.{◌-◌, length, arith, sym, ap, ◌∙◌}
use lib.Seq.{length-take-le}
use Rattle.whole.specs.Gathering.{held_in, any_held}
use Rattle.whole.proofs.Gathering.{short_none, front-last, last-dead, some_held, none_held}
use Rattle.whole.proofs.held_in.Goals as goal

pub returns-then-n-lt2 : goal.returns-then-n-lt2
returns-then-n-lt2 c = ap any_held (sym (short_none c.args.frame.now (omega (arith, c.if-n-lt2.true))))

pub returns-then-not-is_control : goal.returns-then-not-is_control
unfolding held_in
returns-then-not-is_control c = rw (← c.is_control.ensures, c.if-not-is_control.true)

pub held_over-requires : goal.held_over-requires
held_over-requires c =
    let s = c.args.frame.now in
    rw c.first.ensures.result_value (omega (arith, length-take-le (length s - 1) s (omega arith), c.if-n-lt2.false))

pub returns-in_err-held : goal.returns-in_err-held
unfolding held_in
returns-in_err-held c =
    let s = c.args.frame.now in
    let none = none_held _ (sym c.in_err-held.was ∙ c.held_over.ensures) in
    rw (c.from_residual.ensures, ← c.is_control.ensures, c.if-not-is_control.false, ← c.first.ensures.result_value, none, last-dead)

pub hold_at_last-requires : goal.hold_at_last-requires
hold_at_last-requires c = (some_held _ _ (sym c.in_ok-held.was ∙ c.held_over.ensures)).1

pub returns : goal.returns
unfolding held_in
returns c =
    let s = c.args.frame.now in
    let held = (some_held _ _ (sym c.in_ok-held.was ∙ c.held_over.ensures)).0 in
    rw (← c.is_control.ensures, c.if-not-is_control.false, c.hold_at_last.ensures, ← held, c.first.ensures.result_value, front-last s (omega (arith, c.if-n-lt2.false)))
