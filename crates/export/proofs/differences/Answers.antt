-- `export::differences` meets its contract: the columns gone through hold what they differ in. Assumes nothing.
use mathlib.Core.Path.{◌≡◌, refl, sym, ap, ap₂, ◌∙◌}
use mathlib.Core.List.{List}
use Prim.Native.Nat.{ℕ, ◌<◌}
use native.Mathlib.Nat.{zero-add}
use native.Mathlib.Omega.{arith}
use lib.Bits.{bit_xor}
use lib.ListN.{length, get_or, take, set, length-set, replicate}
use lib.Seq.{take_all}
use Rattle.text.specs.Writing.{stored}
use Rattle.text.proofs.Writing.{stored_next, filled}
use Rattle.export.specs.Changed.{line_form, frame_form, change}
use Rattle.export.proofs.Changed.{differing-at, length-change}
use Rattle.export.proofs.differences.Goals as goal

long-line : length line_form ≡ 36
unfolding line_form
long-line = refl

long-frame : length frame_form ≡ 36
unfolding frame_form
long-frame = refl

column : (i : ℕ) → i < 36 → get_or change i 0 ≡ bit_xor (get_or line_form i 0) (get_or frame_form i 0)
unfolding change
column i h = differing-at line_form frame_form i (omega (arith, long-line)) (omega (arith, long-frame))

pub loop-i-init : goal.loop-i-init
unfolding stored
loop-i-init c = (omega arith, refl, refl)

pub loop-i-preserved : goal.loop-i-preserved
unfolding line_form frame_form
loop-i-preserved c =
    let l = c.loop-i in
    let v : bit_xor (get_or line_form l.i 0) (get_or frame_form l.i 0) ≡ get_or change l.i 0 = sym (column l.i (omega arith)) in (
      omega arith,
      simp length-set l.invariant.1,
      ap₂ (λ (b : List ℕ) (x : ℕ). set b l.i x) l.invariant.2 v
          ∙ ap (λ (k : ℕ). set (stored (replicate 36 0) 0 (take l.i change)) k (get_or change l.i 0)) (sym (zero-add l.i))
          ∙ stored_next (replicate 36 0) 0 change l.i (omega (arith, length-change)),
    )

pub returns : goal.returns
returns c =
    let l = c.loop-i in
    let e : l.i ≡ 36 = omega arith in
    l.invariant.2
    ∙ ap (λ (k : ℕ). stored (replicate 36 0) 0 (take k change)) e
    ∙ ap (stored (replicate 36 0) 0) (take_all 36 change (omega (arith, length-change)))
    ∙ filled (replicate 36 0) change length-change
