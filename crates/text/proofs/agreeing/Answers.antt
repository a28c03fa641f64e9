-- `text::agreeing` meets its contract: the flag, with what is left, says it of the whole. Assumes nothing.
use mathlib.Core.Path.{◌≡◌, refl, sym}
use native.Mathlib.Omega.{arith}
use lib.ListN.{get_or}
use Rattle.text.proofs.Matching.{matching-length, matching-turn, matching-end}
use Rattle.text.proofs.agreeing.Goals as goal

pub returns-then-s-t : goal.returns-then-s-t
returns-then-s-t g c = sym (matching-length g.p c.args.s.now c.args.t.now c.if-s-t.true)

pub loop-i-init : goal.loop-i-init
loop-i-init g c = (omega arith, refl)

pub loop-i-preserved : goal.loop-i-preserved
loop-i-preserved g c =
    let a = c.args in
    let i = c.loop-i.i in
    let test : c.agree-all.result ≡ g.p (get_or a.s.now i 0) (get_or a.t.now i 0) = c.requires.1.1 _ _ _ c.agree-all.ensures in
    (c.loop-i.invariant.0, rw test (matching-turn g.p a.s.now a.t.now i c.loop-i.all _ (omega arith) (omega arith) c.loop-i.invariant.1))

pub returns : goal.returns
returns g c =
    let a = c.args in
    matching-end g.p a.s.now a.t.now c.loop-i.i c.loop-i.all _ (omega arith) (omega arith) c.loop-i.invariant.1
