-- `tariff::count_in` meets its contract: counted in the zone of the hour, by the end of its family. Assumes nothing.
use native.Mathlib.Omega.{arith}
use Rattle.tariff.proofs.count_in.Goals as goal

pub count-next-requires : goal.count-next-requires
count-next-requires c =
    let end = c.counter_end.ensures in
    let pre = c.requires in
    ((omega (arith, end.many), omega (arith, end.many)), (rw end.value pre.0.1, pre.1))

pub returns : goal.returns
returns c =
    rw (c.with_counters.ensures, c.count-next.ensures, c.counter_end.ensures.value, c.zone_in.ensures)
