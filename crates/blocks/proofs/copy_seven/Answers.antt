-- `blocks::copy_seven` meets its contract. The invariant: the seven bits of the bytes passed are stored from the front on. Assumes nothing.
use mathlib.Core.Path.{◌≡◌, refl, ap, ◌∙◌}
use mathlib.Core.List.{map}
use Prim.Native.Nat.{◌≤◌}
use native.Mathlib.Omega.{arith}
use lib.ListN.{length, take, length-set, length-map}
use lib.Seq.{take_all}
use Rattle.line.specs.Characters.{seven}
use Rattle.text.specs.Writing.{stored}
use Rattle.text.proofs.Writing.{stored-holding}
use Rattle.blocks.proofs.Copying.{mapped_next}
use Rattle.blocks.proofs.copy_seven.Goals as goal

pub loop-i-init : goal.loop-i-init
unfolding stored
loop-i-init c = (omega arith, refl, refl)

pub loop-i-preserved : goal.loop-i-preserved
unfolding seven
loop-i-preserved c =
    let a = c.args in
    let e : c.loop-i.out ≡ stored a.out.now 0 (take c.loop-i.i (map seven a.s.now)) = c.loop-i.invariant.2 in (
      omega arith,
      simp length-set c.loop-i.invariant.1,
      rw (c.character.ensures, e) (mapped_next seven a.out.now a.s.now c.loop-i.i refl c.loop-i-test.true),
    )

pub returns : goal.returns
returns c =
    let a = c.args in
    let long : length (map seven a.s.now) ≡ length a.s.now = length-map a.s.now seven in
    let room : length (map seven a.s.now) ≤ length a.out.now = omega (arith, c.requires) in
    c.loop-i.invariant.2
    ∙ ap (stored a.out.now 0) (take_all c.loop-i.i (map seven a.s.now) (omega (arith, c.loop-i-test.false)))
    ∙ stored-holding a.out.now (map seven a.s.now) room
