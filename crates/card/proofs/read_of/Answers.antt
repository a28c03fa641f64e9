-- `card::read_of` meets its contract: each way out is the answer that the check and the room name. Assumes nothing.
use mathlib.Core.Path.{refl}
use Rattle.card.proofs.Frames.{card-of, rows_fit, answers-refused, answers-41, answers-1}
use Rattle.card.proofs.read_of.Goals as goal

pub returns-in_err-check_of : goal.returns-in_err-check_of
returns-in_err-check_of c =
    let a = c.args in
    answers-refused a.tables a.text.now a.out.now c.in_err-check_of.field-0.0 c.from_residual.result c.in_err-check_of.ensures c.from_residual.ensures.1

pub returns-then-out-length : goal.returns-then-out-length
returns-then-out-length c =
    let a = c.args in
    answers-41 a.tables a.text.now a.out.now (card-of a.tables a.text.now 1 0 c.in_ok-check_of.ensures refl) c.if-out-length.true

pub write_frames-requires : goal.write_frames-requires
write_frames-requires c =
    let a = c.args in
    (rows_fit a.tables a.text.now a.out.now (card-of a.tables a.text.now 1 0 c.in_ok-check_of.ensures refl), c.if-out-length.false)

pub returns : goal.returns
returns c =
    let a = c.args in
    answers-1 a.tables a.text.now a.out.now (card-of a.tables a.text.now 1 0 c.in_ok-check_of.ensures refl) _ c.if-out-length.false c.write_frames.ensures
