-- `whole::held_over` meets its contract: a run without a control character inside is held whole. Assumes nothing.
use mathlib.Core.Path.{sym, ap, ◌∙◌}
use native.Mathlib.Omega.{arith}
use lib.ListN.{length}
use Rattle.line.specs.Runs.{every}
use Rattle.line.proofs.Runs.{and_left, and_right}
use Rattle.whole.specs.Gathering.{is_not}
use Rattle.whole.proofs.Gathering.{plain_over, held-some}
use Rattle.whole.proofs.held_over.Goals as goal

pub returns-then-plain : goal.returns-then-plain
returns-then-plain c =
    let run = c.args.run.now in
    let starts = c.has_no.ensures ∙ ap (every (is_not 1)) c.rest.ensures.result_value in
    let ends = c.has_no-then-n.ensures ∙ ap (every (is_not 3)) c.first.ensures.result_value in
    let first = c.has_no.result in
    let second = c.has_no-then-n.result in
    rw (← plain_over run c.requires (omega (arith, c.if-n.true))
    (sym starts ∙ and_left first second c.if-plain.true) (sym ends ∙ and_right first second c.if-plain.true)) (held-some (length run) c.requires)
