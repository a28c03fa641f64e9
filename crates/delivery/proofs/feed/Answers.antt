-- `delivery::feed` meets its contract: what is counted so far with what is left is the whole. Assumes nothing.
use native.Mathlib.Omega.{arith}
use Rattle.delivery.proofs.Counting.{feeding-none, feeding-next, feeding-all}
use Rattle.delivery.proofs.feed.Goals as goal

pub loop-b-init : goal.loop-b-init
loop-b-init c = feeding-none _ _

pub step-fed-requires : goal.step-fed-requires
step-fed-requires c = let l = c.loop-b in omega (arith, l.invariant.few, l.invariant.within)

pub loop-b-preserved : goal.loop-b-preserved
loop-b-preserved c =
    let l = c.loop-b in
    let a = c.args in
    feeding-next a.m a.bytes.now l.b-index l.fed.acknowledged l.fed.next c.step-fed.result.acknowledged c.step-fed.result.next (omega arith)
    c.step-fed.ensures.acknowledged c.step-fed.ensures.next l.invariant

pub returns : goal.returns
returns c =
    let l = c.loop-b in
    let a = c.args in
    let all = feeding-all a.m a.bytes.now l.b-index l.fed.acknowledged l.fed.next (omega arith) l.invariant in
    record { acknowledged = all.0; next = all.1 }
