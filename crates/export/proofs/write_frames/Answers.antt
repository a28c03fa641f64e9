-- `export::write_frames` meets its contract: what is written so far is the lines gone through, changed. Assumes nothing.
use mathlib.Core.Path.{◌≡◌, refl, ap, ◌∙◌}
use Prim.Native.Nat.{ℕ, ◌*◌}
use native.Mathlib.Omega.{arith}
use lib.ListN.{length, drop}
use Rattle.text.specs.Writing.{stored}
use Rattle.text.proofs.Writing.{length-stored}
use Rattle.export.specs.Changed.{changed_line, changed_lines}
use Rattle.export.proofs.Lines.{lines_next}
use Rattle.export.proofs.write_frames.Goals as goal

pub loop-i-init : goal.loop-i-init
unfolding stored changed_lines
loop-i-init c = (c.differences-changes.ensures, omega arith, refl, refl)

pub write_frame-requires : goal.write_frame-requires
write_frame-requires c = (c.loop-i.invariant.0, omega arith, omega arith)

pub loop-i-preserved : goal.loop-i-preserved
loop-i-preserved c = let l = c.loop-i in
    let a = c.args in
    let t = a.text.now in
    let e : c.write_frame.new.out ≡ stored l.out (36 * l.i) (changed_line (drop (36 * l.i) t)) = c.write_frame.ensures in (
      l.invariant.0,
      omega arith,
      ap length e ∙ length-stored l.out (36 * l.i) (changed_line (drop (36 * l.i) t)) ∙ l.invariant.2,
      e ∙ (rw l.invariant.3 (lines_next a.out.now t l.i)),
    )

pub shape_of-out : goal.shape_of-out
shape_of-out c = c.loop-i.invariant.2

pub returns : goal.returns
returns c =
    let l = c.loop-i in
    let a = c.args in
    let e : l.i ≡ a.lines = omega arith in
    l.invariant.3 ∙ ap (λ (i : ℕ). stored a.out.now 0 (changed_lines a.text.now i)) e
