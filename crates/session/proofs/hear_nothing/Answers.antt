-- `session::hear_nothing` meets its contract: each way out is the case of the definition that its tests name. Assumes nothing.
use mathlib.Core.Path.{sym, ◌∙◌}
use Rattle.session.specs.Turns.{silent}
use Rattle.session.proofs.Laws.{fact-most, ends-again}
use Rattle.session.proofs.hear_nothing.Goals as goal

pub returns-then-not-is_good : goal.returns-then-not-is_good
unfolding silent
returns-then-not-is_good c = rw (← c.is_good.ensures, c.if-not-is_good.true)

pub returns : goal.returns
unfolding silent
returns c =
    rw (← c.is_good.ensures, c.if-not-is_good.false, ← ends-again c.args.s c.of.result c.of.ensures.some c.of.ensures.none (fact-most c.args.s (sym c.is_good.ensures ∙ c.if-not-is_good.false)), ← c.unwrap_or.ensures) c.end.ensures
