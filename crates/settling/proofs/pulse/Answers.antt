-- `settling::pulse` meets its contract: each way out is the case of the definition that its tests name. Assumes nothing.
use Rattle.std.proofs.Common.{arith}
use Rattle.settling.specs.Settling.{pulsed_by}
use Rattle.settling.proofs.pulse.Goals as goal

pub count-requires : goal.count-requires
count-requires c =
    let end = c.export_end-end.ensures in
    ((omega (arith, end.some), omega (arith, end.some)), (rw end.value c.requires.0.1.1, c.requires.1))

pub returns-then-p : goal.returns-then-p
unfolding pulsed_by
returns-then-p c = rw (c.if-p.true, c.count.ensures, c.export_end-end.ensures.value, c.zone_at-zone.ensures)

pub count-requires-2 : goal.count-requires-2
count-requires-2 c =
    let end = c.counter_end-end.ensures in
    ((omega (arith, end.many), omega (arith, end.many)), (rw end.value c.requires.0.1.0, c.requires.1))

pub returns : goal.returns
unfolding pulsed_by
returns c = rw (c.if-p.false, c.count-2.ensures, c.counter_end-end.ensures.value, c.zone_at-zone.ensures)
