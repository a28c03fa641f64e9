-- `replies::block::put_tables` meets its contract: so far the lines of tables 01 to i are put in. Assumes nothing.
use mathlib.Core.Path.{◌≡◌, refl, ◌∙◌}
use Prim.Native.Nat.{◌+◌, ◌*◌, ◌≤◌}
use native.Mathlib.Omega.{arith}
use lib.ListN.{length}
use Rattle.state.specs.Sizes.{row_length}
use Rattle.text.proofs.Writing.{length-stored}
use Rattle.replies.proofs.Tables.{part-long, no_table, next-table}
use borrow.Author.Rules.{rules}
use Rattle.replies.proofs.block.put_tables.Goals as goal

pub loop-i-init : goal.loop-i-init
loop-i-init c = (omega arith, refl, no_table c.args.rows.now c.args.buf.now c.args.at)

pub put_table_set-place-requires : goal.put_table_set-place-requires
put_table_set-place-requires c =
    let turn = c.loop-i in
    let rows : length c.args.rows.now ≡ 600 = search rules in
    let long = part-long c.args.rows.now turn.i (omega (arith, rows, c.requires.1, c.loop-i-test.true)) in
    omega (arith, long, c.requires.0, turn.invariant.0, turn.invariant.1, c.loop-i-test.true)

pub loop-i-preserved : goal.loop-i-preserved
loop-i-preserved c =
    let a = c.args in
    let turn = c.loop-i in
    let taken = c.loop-i-test.true in
    let put = c.put_table_set-place.ensures in
    let rows : length a.rows.now ≡ 600 = search rules in
    let fit : turn.i * row_length + row_length ≤ length a.rows.now = omega (arith, rows, c.requires.1, taken) in
    let long = part-long a.rows.now turn.i fit in (
      omega (arith, put.next, long, turn.invariant.0),
      rw put.held (length-stored _ _ _ ∙ turn.invariant.1),
      next-table a.rows.now a.buf.now a.at turn.i turn.place turn.buf _ _ fit turn.invariant.2 put.next put.held,
    )

pub shape_of-buf : goal.shape_of-buf
shape_of-buf c = c.loop-i.invariant.1

pub returns : goal.returns
returns c =
    let turn = c.loop-i in
    let done : turn.i ≡ c.args.tables = omega (arith, turn.auto.i-end, c.loop-i-test.false) in
    record { next = omega (arith, turn.invariant.0); held = rw done at turn.invariant.2.held }
