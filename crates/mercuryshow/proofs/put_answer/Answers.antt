-- `mercuryshow::put_answer` meets its contract: four lines, or the number and the code of a refusal. Assumes nothing.
use mathlib.Core.Path.{◌≡◌, ap, ◌∙◌}
use native.Mathlib.Nat.{zero-add}
use lib.ListN.{length}
use Rattle.text.specs.Writing.{stored}
use Rattle.numerals.specs.Numerals.{number_line}
use Rattle.mercuryshow.specs.Shown.{answer_text}
use Rattle.mercuryshow.proofs.Sizes.{refused}
use Rattle.mercuryshow.proofs.put_answer.Goals as goal

pub returns-in-Ok : goal.returns-in-Ok
unfolding answer_text
returns-in-Ok c = rw c.in-Ok.is (record { next = c.put_energy.ensures.next; held = c.put_energy.ensures.held })

pub returns-in-Err : goal.returns-in-Err
returns-in-Err c =
    let is = c.in-Err.is in
    let line : number_line c.number_of-number.result c.code_of-code.result ≡ answer_text c.args.a =
    rw (c.number_of-number.ensures, c.code_of-code.ensures, is) (refused c.in-Err.field-0) in
    record { next = c.put_line.ensures.next ∙ zero-add _ ∙ ap length line; held = c.put_line.ensures.held ∙ ap (stored c.args.out.now 0) line }
