-- `datasets::put_account_set` meets its contract: the address, the value and the end, put in one after the other. Assumes nothing.
use mathlib.Core.Path.{refl}
use lib.ListN.{length}
use native.Mathlib.Omega.{arith}
use Rattle.datasets.specs.Sets.{account_set}
use Rattle.datasets.proofs.Joined.{one_line}
use Rattle.datasets.proofs.put_account_set.Goals as goal

pub returns : goal.returns
returns c =
    let opened = c.put-a.ensures in
    let shown = c.put-b.ensures in
    let ended = c.put.ensures in
    let line = account_set c.args.s.now in
    record { next = omega (arith, opened.next, shown.next, ended.next); held = one_line line.address line.value (length c.args.s.now) c.args.buf.now c.args.at _ _ _ _ _ refl opened.next opened.held shown.next shown.held ended.held }
