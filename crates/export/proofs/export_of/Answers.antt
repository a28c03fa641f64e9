-- `export::export_of` meets its contract: each way out is the answer that the check and the room name. Assumes nothing.
use Rattle.std.proofs.Common.{refl}
use Rattle.export.proofs.Answers.{post-of, answers-refused, answers-21, answers-1}
use Rattle.export.proofs.export_of.Goals as goal

pub returns-in_err-check_of : goal.returns-in_err-check_of
returns-in_err-check_of c = let a = c.args in
    answers-refused a.tables a.text.now a.out.now c.in_err-check_of.field-0.0 c.from_residual.result c.in_err-check_of.ensures c.from_residual.ensures.1

pub returns-then-out-lines : goal.returns-then-out-lines
returns-then-out-lines c =
    let a = c.args in
    let p = post-of a.tables a.text.now 1 0 c.in_ok-check_of.ensures refl in
    answers-21 a.tables a.text.now a.out.now p c.if-out-lines.true

pub returns : goal.returns
returns c = let a = c.args in
    let p = post-of a.tables a.text.now 1 0 c.in_ok-check_of.ensures refl in
    answers-1 a.tables a.text.now a.out.now p _ c.if-out-lines.false c.write_frames.ensures
