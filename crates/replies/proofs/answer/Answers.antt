-- `replies::answer` meets its contract: STX, the data, and then closed. Assumes nothing.
use mathlib.Core.List.{[], ◌∷◌}
use native.Mathlib.Omega.{arith}
use Rattle.text.proofs.Writing.{length-stored}
use Rattle.frames.proofs.Sealing.{blocking, block-length}
use Rattle.replies.specs.Answers.{asked_data}
use Rattle.replies.specs.Plain.{without_archive}
use Rattle.replies.proofs.Sizes.{asked-short}
use borrow.Author.Rules.{rules}
use Rattle.replies.proofs.answer.Goals as goal

pub seal-requires : goal.seal-requires
seal-requires c =
    let a = c.args in
    let g = without_archive a.p a.rows.now in
    let first = c.put-start.ensures in
    let shown = c.put_asked-end.ensures in
    let short = asked-short g a.a (search rules) (search rules) in
    (omega (arith, first.next, shown.next), rw (shown.held, length-stored c.put-start.new.buf c.put-start.result (asked_data g a.a), first.held, length-stored a.buf.now 0 (2 ∷ [])) (omega (arith, first.next, shown.next, short, c.requires)))

pub returns : goal.returns
returns c =
    let a = c.args in
    let g = without_archive a.p a.rows.now in
    let content = asked_data g a.a in
    let first = c.put-start.ensures in
    let shown = c.put_asked-end.ensures in
    let shut = c.seal.ensures in
    let short = asked-short g a.a (search rules) (search rules) in
    record { whole = omega (arith, first.next, shown.next, shut.whole, block-length content); held = blocking a.buf.now content _ _ _ _ _ (omega (arith, short, c.requires)) first.next first.held shown.next shown.held shut.held }
