-- `reading::all_plain` meets its contract: the flag, with what is left, says it of the whole. Assumes nothing.
use mathlib.Core.Path.{refl}
use native.Mathlib.Omega.{arith}
use Rattle.line.proofs.Runs.{every-turn, every-end}
use Rattle.text.specs.Classes.{between}
use Rattle.reading.specs.Sets.{is_plain}
use Rattle.reading.proofs.all_plain.Goals as goal

pub loop-c-init : goal.loop-c-init
loop-c-init c = (omega arith, refl)

pub loop-c-preserved : goal.loop-c-preserved
unfolding between is_plain
loop-c-preserved c =
    let a = c.args in
    (omega arith, every-turn is_plain a.s.now c.loop-c.c-index c.loop-c.ok _ c.loop-c-test.true c.loop-c.invariant.1)

pub returns : goal.returns
returns c =
    let a = c.args in
    every-end is_plain a.s.now c.loop-c.c-index c.loop-c.ok _ c.loop-c-test.false c.loop-c.invariant.1
