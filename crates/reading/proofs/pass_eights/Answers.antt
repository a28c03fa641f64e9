-- `reading::pass_eights` meets its contract: what was passed may all stand in a value, and the rest is left to take eights from. Assumes nothing.
use mathlib.Core.Path.{◌≡◌, sym, ◌∙◌}
use mathlib.Core.Bool.{true}
use Prim.Native.Nat.{◌+◌, ◌-◌}
use native.Mathlib.Omega.{arith}
use lib.ListN.{take, drop}
use Rattle.line.specs.Runs.{every}
use Rattle.line.proofs.Runs.{every-weaker}
use Rattle.text.specs.Classes.{is_value}
use Rattle.reading.specs.Sets.{is_plain}
use Rattle.reading.proofs.Classes.{plain_value}
use Rattle.reading.proofs.Leading.{none_passed, eight-more, eight-taken}
use Rattle.reading.proofs.pass_eights.Goals as goal

pub loop-eight-init : goal.loop-eight-init
loop-eight-init c =
    let part = c.chunks_exact-eight-items.ensures in
    let same = c.into_iter-eight-iterator.ensures.into_iter_gives in
    (omega arith, c.requires.0, c.requires.1, none_passed is_value c.args.s.now c.args.at, rw same part.size, rw same part.rest)

pub loop-eight-preserved : goal.loop-eight-preserved
loop-eight-preserved c =
    let s = c.args.s.now in
    let i = c.loop-eight.i in
    let inv = c.loop-eight.invariant in
    let steps = c.in-Some.ensures.steps in
    let taken = eight-taken s c.in-Some.eight.now _ i c.args.end inv.2 inv.1 (sym inv.5 ∙ steps.1.0) (steps.1.1 ∙ inv.4) in
    let plain : every is_plain (take (i + 8 - i) (drop i s)) ≡ true = rw (← taken.1) (sym c.all_plain.ensures ∙ c.if-not-all_plain.false) in
    let next = every-weaker is_plain is_value plain_value (take (i + 8 - i) (drop i s)) plain in
    (omega arith, taken.0, inv.2, eight-more is_value s c.args.at i inv.0 inv.3 next, steps.0 ∙ inv.4, taken.2)
