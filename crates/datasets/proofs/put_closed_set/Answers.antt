-- `datasets::put_closed_set` meets its contract: the address, the value and the end, put in one after the other. Assumes nothing.
use native.Mathlib.Omega.{arith}
use Rattle.text.specs.Decimal.{decimal}
use Rattle.datasets.specs.Sets.{closed_set}
use Rattle.datasets.proofs.Lengths.{stamp-long}
use Rattle.datasets.proofs.Joined.{one_line}
use Rattle.datasets.proofs.put_closed_set.Goals as goal

pub returns : goal.returns
unfolding decimal
returns c =
    let a = c.args in
    let opened = c.put-a.ensures in
    let shown = c.put_stamp-b.ensures in
    let ended = c.put.ensures in
    let line = closed_set a.k a.stamp in
    record { next = omega (arith, opened.next, shown.next, ended.next); held = one_line line.address line.value 14 a.buf.now a.at _ _ _ _ _ (stamp-long a.stamp) opened.next opened.held shown.next shown.held ended.held }
