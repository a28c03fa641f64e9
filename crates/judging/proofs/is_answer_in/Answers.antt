-- `judging::is_answer_in` meets its contract: it looks at the part where there is one. Assumes nothing.
use mathlib.Core.Path.{sym, ap, ◌∙◌}
use borrow.Author.Tests.{eq-eqb, ne_eqb}
use Rattle.blocks.specs.Parts.{PartAt}
use Rattle.blocks.proofs.Refusals.{not-done}
use Rattle.judging.specs.Right.{answers_in, data_in}
use Rattle.judging.proofs.is_answer_in.Goals as goal

pub returns-in-Err : goal.returns-in-Err
unfolding answers_in data_in
returns-in-Err c =
    let e = ap (λ (p : PartAt). p.number) c.in-Err.ensures.within.is in
    rw (ne_eqb _ 1 (λ k. not-done _ (e ∙ k)))

pub returns-in-Ok : goal.returns-in-Ok
unfolding answers_in data_in
returns-in-Ok c =
    let e = ap (λ (p : PartAt). p.number) c.in-Ok.ensures.within.is in
    rw (eq-eqb _ 1 (sym e), c.tells_asked.ensures, c.in-Ok.ensures.value)
