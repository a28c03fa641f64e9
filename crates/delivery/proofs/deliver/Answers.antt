-- `delivery::deliver` meets its contract: the export's answer, and what feeding its frames gives. Assumes nothing.
use Rattle.std.proofs.Common.{sym, refl, arith, length-take-le}
use Rattle.export.proofs.Answers.{frames-bound}
use Rattle.delivery.proofs.Counting.{refused, was-delivered}
use Rattle.delivery.proofs.deliver.Goals as goal

pub returns-in_err-length : goal.returns-in_err-length
returns-in_err-length c =
    let a = c.args in
    refused a.m a.text.now _ c.in_err-length.field-0.0 _ (omega arith) (rw c.tables_of-tables.ensures.value at c.in_err-length.ensures) c.from_residual.result c.from_residual.ensures.1

pub slice_bounds-out-end : goal.slice_bounds-out-end
slice_bounds-out-end c = omega (arith, frames-bound _ _ _ _ _ _ _ c.in_ok-length.ensures, c.tables_of-tables.ensures.few)

pub slice_bounds-feed-end : goal.slice_bounds-feed-end
slice_bounds-feed-end c = sym (length-take-le _ _ (omega (arith, frames-bound _ _ _ _ _ _ _ c.in_ok-length.ensures, c.tables_of-tables.ensures.few)))

pub returns : goal.returns
returns c =
    let a = c.args in
    let f = c.feed in
    was-delivered a.m a.text.now _ _ _ _ _ (omega arith) f.result.acknowledged f.result.next refl f.ensures.acknowledged f.ensures.next (rw c.tables_of-tables.ensures.value at c.in_ok-length.ensures)
