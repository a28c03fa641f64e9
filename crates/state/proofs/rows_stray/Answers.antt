-- `state::rows_stray` meets its contract: what is gathered, with what is left, says it of the whole. Assumes nothing.
use Rattle.std.proofs.Common.{◌≡◌, ◌+◌, ◌*◌, ◌≤◌, length, take, refl, ◌∙◌, arith, length-take-le}
use Rattle.line.proofs.Runs.{every-end}
use Rattle.text.specs.Classes.{between}
use Rattle.state.specs.Sizes.{first_rows}
use Rattle.state.specs.Fours.{in_row}
use Rattle.state.proofs.Fours.{row-turn}
use Rattle.state.proofs.rows_stray.Goals as goal

pub loop-word-init : goal.loop-word-init
unfolding in_row
loop-word-init c = (c.requires, refl)

pub loop-word-preserved : goal.loop-word-preserved
loop-word-preserved c =
    let s = c.args.s.now in
    let w = c.loop-word.word in
    let i = w * 4 in
    let next : (w + 1) * 4 ≡ i + 4 = omega arith in
    let byte = c.type_inv.s in
    let fits : i + 4 ≤ first_rows = omega (arith, c.loop-word-test.true) in (
      c.loop-word.invariant.0,
      rw next (row-turn first_rows s i c.loop-word.bad c.above_one-bad.result _ fits (omega (arith, c.loop-word.invariant.0)) (omega (arith, c.above_one-bad.type_inv))
          (omega (arith, byte i)) (omega (arith, byte (i + 1))) (omega (arith, byte (i + 2))) (omega (arith, byte (i + 3)))
          (c.above_one-bad.ensures ∙ c.four.ensures) c.loop-word.invariant.1),
    )

pub returns : goal.returns
returns c =
    let s = c.args.s.now in
    let long : first_rows ≤ length s = omega (arith, c.loop-word.invariant.0) in
    every-end (between 49 52) (take first_rows s) (c.loop-word.word * 4) (in_row c.loop-word.bad) _ (rw (length-take-le first_rows s long) (omega (arith, c.loop-word-test.false))) c.loop-word.invariant.1
