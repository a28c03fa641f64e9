-- `line::undamaged` meets its contract: whether no stray top bit is gathered, with what is left, says it of the whole. Assumes nothing.
use mathlib.Core.Path.{refl}
use Prim.Native.Nat.{◌/◌, ◌<◌}
use native.Mathlib.Omega.{arith}
use lib.Dec.{eqb}
use lib.ListN.{get_or}
use Rattle.line.specs.Characters.{undamaged_at, undamaged_all}
use Rattle.line.proofs.Evening.{none-stray}
use Rattle.line.proofs.Runs.{every-turn, every-end}
use Rattle.line.proofs.undamaged.Goals as goal

pub loop-at-init : goal.loop-at-init
loop-at-init c = refl

pub loop-at-preserved : goal.loop-at-preserved
loop-at-preserved c =
    let s = c.args.s.now in
    let at = c.loop-at.at in
    let strays = c.loop-at.strays in
    let byte = get_or s at 0 in
    let small : byte < 256 = omega (arith, c.type_inv.s at) in
    rw (c.balance.ensures, none-stray strays byte small)
    (every-turn undamaged_at s at (eqb (strays / 128) 0) _ (omega arith) c.loop-at.invariant)

pub returns : goal.returns
unfolding undamaged_all
returns c =
    let s = c.args.s.now in
    every-end undamaged_at s c.loop-at.at (eqb (c.loop-at.strays / 128) 0) _ (omega arith) c.loop-at.invariant
