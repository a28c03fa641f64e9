-- `state::rolled` meets its contract: below an end a number stays, and below twice the end it rolls over once. Assumes nothing.
use Rattle.std.proofs.Common.{sym, ◌∙◌, mod-eq_of_lt, arith}
use native.Mathlib.Nat.{mod-eq-sub-mod}
use Rattle.state.proofs.rolled.Goals as goal

pub returns-then-n-end : goal.returns-then-n-end
returns-then-n-end c = sym (mod-eq_of_lt (omega (arith, c.if-n-end.true)))

pub returns : goal.returns
returns c =
    sym (mod-eq-sub-mod {n = c.args.n} {m = c.args.end} (omega (arith, c.if-n-end.false)) ∙ mod-eq_of_lt (omega (arith, c.requires, c.if-n-end.false)))
