-- `datasets::put_serial_set` meets its contract: the address, the value and the end, put in one after the other. Assumes nothing.
use native.Mathlib.Omega.{arith}
use Rattle.datasets.specs.Sets.{serial_set}
use Rattle.datasets.proofs.Lengths.{serial-long}
use Rattle.datasets.proofs.Joined.{one_line}
use Rattle.datasets.proofs.put_serial_set.Goals as goal

pub returns : goal.returns
returns c =
    let opened = c.put-a.ensures in
    let shown = c.put_serial-b.ensures in
    let ended = c.put.ensures in
    let line = serial_set c.args.s.now in
    record { next = omega (arith, opened.next, shown.next, ended.next); held = one_line line.address line.value 11 c.args.buf.now c.args.at _ _ _ _ _ (serial-long c.args.s.now c.requires.0) opened.next opened.held shown.next shown.held ended.held }
