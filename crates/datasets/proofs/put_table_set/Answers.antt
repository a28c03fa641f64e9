-- `datasets::put_table_set` meets its contract: the address, the value and the end, put in one after the other. Assumes nothing.
use mathlib.Core.Path.{refl}
use lib.ListN.{length}
use native.Mathlib.Omega.{arith}
use Rattle.text.specs.Layout.{layout_text}
use Rattle.text.specs.Decimal.{decimal}
use Rattle.values.specs.Texts.{table_text}
use Rattle.datasets.specs.Sets.{table_set}
use Rattle.datasets.proofs.Joined.{one_line}
use Rattle.datasets.proofs.put_table_set.Goals as goal

pub returns : goal.returns
unfolding table_text layout_text decimal
returns c =
    let opened = c.put-a.ensures in
    let shown = c.put_row-b.ensures in
    let ended = c.put.ensures in
    let line = table_set c.args.t.0 c.args.row.now in
    record { next = omega (arith, opened.next, shown.next, ended.next); held = one_line line.address line.value (length c.args.row.now) c.args.buf.now c.args.at _ _ _ _ _ refl opened.next opened.held shown.next shown.held ended.held }
