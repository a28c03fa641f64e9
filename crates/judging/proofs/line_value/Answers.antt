-- `judging::line_value` meets its contract: the opening goes, then what closes the line. Assumes nothing.
use mathlib.Core.Path.{sym}
use Rattle.std.specs.Cmp.Lexicographic.{same_text, other_text}
use Rattle.judging.proofs.Lines.{other-opening, closed}
use Rattle.judging.proofs.line_value.Goals as goal

pub returns-in_err-strip_prefix : goal.returns-in_err-strip_prefix
returns-in_err-strip_prefix c =
    rw c.from_residual.ensures (other-opening c.args.opening.now c.args.s.now (other_text _ _ (sym c.in_err-strip_prefix.ensures.cases)))

pub returns : goal.returns
returns c =
    let p = c.in_ok-strip_prefix.ensures.cases in
    closed c.args.opening.now c.args.s.now _ p.1 p.2 c.strip_suffix.result (same_text _ _ (sym p.0)) c.strip_suffix.ensures.cases
