-- `text::put` meets its contract: what is put in so far is the text as far as it was gone through. Assumes nothing.
use mathlib.Core.Path.{◌≡◌, refl, ap, ◌∙◌}
use native.Mathlib.Omega.{arith}
use lib.ListN.{take, length-set}
use lib.Seq.{take_all}
use Rattle.text.specs.Writing.{stored}
use Rattle.text.proofs.Writing.{stored_next}
use Rattle.text.proofs.put.Goals as goal

pub loop-i-init : goal.loop-i-init
unfolding stored
loop-i-init c = (refl, refl)

pub loop-i-preserved : goal.loop-i-preserved
loop-i-preserved c =
    let a = c.args in
    let i = c.loop-i.i in
    let e : c.loop-i.buf ≡ stored a.buf.now a.at (take i a.s.now) = c.loop-i.invariant.1 in
    (simp length-set c.loop-i.invariant.0, rw e (stored_next a.buf.now a.at a.s.now i (omega arith)))

pub returns : goal.returns
returns c =
    let a = c.args in
    record { next = refl; held = c.loop-i.invariant.1 ∙ ap (stored a.buf.now a.at) (take_all c.loop-i.i a.s.now (omega arith)) }
