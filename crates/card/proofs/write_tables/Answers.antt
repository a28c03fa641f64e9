-- `card::write_tables` meets its contract: what is written so far is the frames of the tables gone through. Assumes nothing.
use mathlib.Core.Path.{◌≡◌, refl, ap, ◌∙◌}
use Prim.Native.Nat.{ℕ, ◌+◌}
use native.Mathlib.Omega.{arith}
use lib.ListN.{length, drop}
use Rattle.text.specs.Writing.{stored}
use Rattle.text.proofs.Writing.{length-stored}
use Rattle.card.specs.Frames.{field_frames}
use Rattle.card.proofs.Frames.{tables_more}
use Rattle.card.proofs.write_tables.Goals as goal

pub loop-i-init : goal.loop-i-init
unfolding stored field_frames
loop-i-init c = (omega arith, refl, refl)

pub write_frame-requires : goal.write_frame-requires
write_frame-requires c = (omega (arith, c.requires.0), omega (arith, c.requires.1, c.loop-i.invariant.1))

pub loop-i-preserved : goal.loop-i-preserved
loop-i-preserved c = let l = c.loop-i in
    let t = c.args.text.now in
    let e = tables_more t c.args.out.now l.out l.i _ (omega (arith, c.requires.0)) l.invariant.2 c.write_frame.ensures in
    (omega arith, ap length e ∙ length-stored c.args.out.now 19 (field_frames (drop 13 t) (l.i + 1)), e)

pub shape_of-out : goal.shape_of-out
shape_of-out c = c.loop-i.invariant.1

pub returns : goal.returns
returns c = let l = c.loop-i in
    let e : l.i ≡ c.args.tables = omega arith in
    l.invariant.2 ∙ ap (λ (i : ℕ). stored c.args.out.now 19 (field_frames (drop 13 c.args.text.now) i)) e
