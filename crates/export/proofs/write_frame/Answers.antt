-- `export::write_frame` meets its contract: what is written so far is the line, changed as far as it was gone through; the BCC
-- is written over the last byte. Assumes nothing.
use mathlib.Core.Path.{◌≡◌, refl, sym, ap, ◌∙◌}
use mathlib.Core.List.{List}
use Prim.Native.Nat.{ℕ, ◌+◌, ◌<◌, ◌≤◌}
use native.Mathlib.Omega.{arith}
use lib.Bits.{bit_xor}
use lib.ListN.{length, get_or, take, drop, set, length-set, length-drop}
use lib.Seq.{get_or-take, take-take, length-take-le}
use Rattle.line.specs.Characters.{sent}
use Rattle.line.specs.Checksum.{bcc_of}
use Rattle.text.specs.Writing.{stored}
use Rattle.export.specs.Changed.{change, changed_to, changed_line}
use Rattle.export.proofs.Changed.{changed-next, changed-last}
use Rattle.export.proofs.write_frame.Goals as goal

-- a copy of the first 36 characters serves as they do
module _ (buf out s copy : List ℕ) (at j x : ℕ) (same : copy ≡ take 36 s) (e : out ≡ stored buf at (changed_to s j)) where
  column : (i : ℕ) → i < 36 → get_or copy i 0 ≡ get_or s i 0
  column i h = ap (λ (l : List ℕ). get_or l i 0) same ∙ get_or-take 36 s i 0 h

  turn : j < 36 → x ≡ sent (bit_xor (get_or copy j 0) (get_or change j 0)) → set out (at + j) x ≡ stored buf at (changed_to s (j + 1))
  turn h w = rw (e, w, column j h) (changed-next buf at s j)

  last : j ≡ 36 → (sum : ℕ) → sum ≡ bcc_of (take 33 copy) → x ≡ sent (bit_xor sum 44) → set out (at + 35) x ≡ stored buf at (changed_line s)
  unfolding changed_line
  last k sum b w =
      let first : take 33 copy ≡ take 33 s = ap (take 33) same ∙ take-take 33 36 s (omega arith) in
      let v : x ≡ sent (bit_xor (bcc_of (take 33 s)) 44) = w ∙ ap (λ (y : ℕ). sent (bit_xor y 44)) (b ∙ ap bcc_of first) in
      rw (e, k, v) (changed-last buf at s _)

long : (text copy : List ℕ) (at : ℕ) → at + 36 ≤ length text → copy ≡ take 36 (drop at text) → 33 ≤ length copy
long text copy at h e = omega (arith, ap length e, length-take-le 36 (drop at text) (omega (arith, length-drop at text)))

pub line_at-copy-requires : goal.line_at-copy-requires
line_at-copy-requires c = c.requires.1

pub loop-j-init : goal.loop-j-init
unfolding stored changed_to
loop-j-init c = (omega arith, refl, refl)

pub loop-j-preserved : goal.loop-j-preserved
loop-j-preserved c = let l = c.loop-j in
    let a = c.args in
    let copied = c.line_at-copy in
    let w = c.wire.ensures ∙ ap (λ (d : List ℕ). sent (bit_xor (get_or copied.result l.j 0) (get_or d l.j 0))) c.requires.0 in
    (omega arith, simp length-set l.invariant.1, turn a.out.now l.out (drop a.at a.text.now) copied.result a.at l.j _ copied.ensures l.invariant.2 (omega arith) w)

pub slice_bounds-bcc-end : goal.slice_bounds-bcc-end
slice_bounds-bcc-end c = let a = c.args in
    let copied = c.line_at-copy in
    sym (length-take-le 33 copied.result (long a.text.now copied.result a.at c.requires.1 copied.ensures))

pub shape_of-out : goal.shape_of-out
shape_of-out c = simp length-set c.loop-j.invariant.1

pub returns : goal.returns
returns c = let l = c.loop-j in
    let a = c.args in
    let copied = c.line_at-copy in
    last a.out.now l.out (drop a.at a.text.now) copied.result a.at l.j _ copied.ensures l.invariant.2 (omega arith) c.bcc-sum.result c.bcc-sum.ensures c.wire-2.ensures
