-- `whole::hold_at_last` meets its contract: each way out is the case of the definition that its tests name. Assumes nothing.
use Rattle.std.proofs.Common.{le-leb}
use Rattle.std.proofs.lemmas.Bool.{lt-leb}
use Rattle.whole.specs.Gathering.{held_at_last}
use Rattle.whole.proofs.Gathering.{held-some}
use Rattle.whole.proofs.hold_at_last.Goals as goal

pub returns-then-is_control : goal.returns-then-is_control
unfolding held_at_last
returns-then-is_control c = rw (← c.is_control.ensures, c.if-is_control.true) (held-some _ c.requires)

pub returns-then-is_control-2 : goal.returns-then-is_control-2
unfolding held_at_last
returns-then-is_control-2 c = rw (← c.is_control.ensures, c.if-is_control.false, ← c.is_control-2.ensures, c.if-is_control-2.true)

pub returns-then-held : goal.returns-then-held
unfolding held_at_last
returns-then-held c =
    rw (← c.is_control.ensures, c.if-is_control.false, ← c.is_control-2.ensures, c.if-is_control-2.false, le-leb _ _ c.if-held.true) (held-some _ c.requires)

pub returns : goal.returns
unfolding held_at_last
returns c = rw (← c.is_control.ensures, c.if-is_control.false, ← c.is_control-2.ensures, c.if-is_control-2.false, lt-leb _ _ c.if-held.false)
