-- `settling::settle` meets its contract: a pulse goes its way and any other event another, and either meets it. Assumes nothing.
use Rattle.std.proofs.Common.{sym, ◌∙◌}
use Rattle.settling.proofs.Laws.{pulse-told, passed}
use Rattle.settling.proofs.settle.Goals as goal

pub pulse-requires : goal.pulse-requires
pulse-requires c =
    let passes = c.in_ok-pass-in-Some.ensures in
    let told = rw (sym c.in-Some.ensures) at (pulse-told c.args.s c.args.held.now c.args.tables.now _ _ _ passes.unrefused) in
    (c.requires passes.well, told.1)

pub returns-in_ok-pass-in-Some-clause-settled : goal.returns-in_ok-pass-in-Some-clause-settled
returns-in_ok-pass-in-Some-clause-settled c =
    let passes = c.in_ok-pass-in-Some.ensures in
    let told = rw (sym c.in-Some.ensures) at (pulse-told c.args.s c.args.held.now c.args.tables.now _ _ _ passes.unrefused) in
    rw (← c.event_of-e.ensures, passed _ _ _ _ _ _ passes, c.kept_in.ensures) (c.pulse.ensures ∙ told.0)

pub returns-in_ok-pass-in-None-clause-settled : goal.returns-in_ok-pass-in-None-clause-settled
returns-in_ok-pass-in-None-clause-settled c =
    let passes = c.in_ok-pass-in-None.ensures in
    rw (← c.event_of-e.ensures, passed _ _ _ _ _ _ passes) (c.hear_or_leave.ensures c.args.tables.now)
