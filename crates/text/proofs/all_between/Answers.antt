-- `text::all_between` meets its contract: the flag, with what is left, says it of the whole. Assumes nothing.
use mathlib.Core.Path.{refl}
use native.Mathlib.Omega.{arith}
use Rattle.line.proofs.Runs.{every-turn, every-end}
use Rattle.text.specs.Classes.{between}
use Rattle.text.proofs.all_between.Goals as goal

pub loop-c-init : goal.loop-c-init
loop-c-init c = refl

pub loop-c-preserved : goal.loop-c-preserved
unfolding between
loop-c-preserved c =
    let a = c.args in
    every-turn (between a.lo a.hi) a.s.now c.loop-c.c-index c.loop-c.ok _ (omega arith) c.loop-c.invariant

pub returns : goal.returns
returns c =
    let a = c.args in
    every-end (between a.lo a.hi) a.s.now c.loop-c.c-index c.loop-c.ok _ (omega arith) c.loop-c.invariant
