-- `datasets::put_date_set` meets its contract: the address, the value and the end, put in one after the other. Assumes nothing.
use native.Mathlib.Omega.{arith}
use Rattle.datasets.specs.Sets.{date_set}
use Rattle.datasets.proofs.Lengths.{date-long}
use Rattle.datasets.proofs.Joined.{one_line}
use Rattle.datasets.proofs.put_date_set.Goals as goal

pub returns : goal.returns
returns c =
    let opened = c.put-a.ensures in
    let shown = c.put_date-b.ensures in
    let ended = c.put.ensures in
    let line = date_set c.args.date in
    record { next = omega (arith, opened.next, shown.next, ended.next); held = one_line line.address line.value 8 c.args.buf.now c.args.at _ _ _ _ _ (date-long c.args.date) opened.next opened.held shown.next shown.held ended.held }
