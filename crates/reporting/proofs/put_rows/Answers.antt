-- `reporting::put_rows` meets its contract: what is put in so far is the rows gone through. Assumes nothing.
use mathlib.Core.Path.{◌≡◌, refl, ap, ◌∙◌}
use Prim.Native.Nat.{ℕ, ◌+◌, ◌-◌, ◌*◌}
use native.Mathlib.Omega.{arith}
use lib.ListN.{take, drop, length-drop}
use lib.Seq.{length-take-le}
use Rattle.text.specs.Writing.{stored}
use Rattle.reporting.specs.Report.{row_lines}
use Rattle.reporting.proofs.Rows.{row_more, row-place}
use Rattle.reporting.proofs.put_rows.Goals as goal

pub loop-i-init : goal.loop-i-init
unfolding stored row_lines
loop-i-init c = (omega arith, omega arith, refl, refl)

pub put-to-requires : goal.put-to-requires
put-to-requires c = let L = c.loop-i in
    let p = c.requires in
    let s = c.args.rows.now in
    omega (arith, p.0, p.1, p.2, L.invariant.1, L.invariant.2, length-take-le (L.i * 24 + 24 - L.i * 24) (drop (L.i * 24) s) (omega (arith, p.1, p.2, length-drop (L.i * 24) s)))

pub put-to-requires-in-loop-i : goal.put-to-requires-in-loop-i
put-to-requires-in-loop-i c = let L = c.loop-i in
    let p = c.requires in
    let s = c.args.rows.now in
    let put = c.put-to in
    omega (arith, p.0, p.1, p.2, L.invariant.1, L.invariant.2, put.ensures.next, put.auto.buf, length-take-le (L.i * 24 + 24 - L.i * 24) (drop (L.i * 24) s) (omega (arith, p.1, p.2, length-drop (L.i * 24) s)))

pub loop-i-preserved : goal.loop-i-preserved
loop-i-preserved c =
    let L = c.loop-i in
    let p = c.requires in
    let a = c.args in
    let s = a.rows.now in
    let row = c.put-to in
    let end = c.put-to-in-loop-i in
    let part = ap (λ (n : ℕ). take n (drop (L.i * 24) s)) {x = L.i * 24 + 24 - L.i * 24} {y = 24} (omega arith) in
    let more = c.loop-i-test.true in (
      omega arith,
      row-place a.out.now s a.at L.i p.1 (omega (arith, more, p.2)) L.out L.to L.invariant.3 L.invariant.1 _ part _ _ row.ensures.held row.ensures.next _ end.ensures.held _ end.ensures.next,
      omega (arith, end.auto.buf, row.auto.buf, L.invariant.2),
      row_more a.out.now s a.at L.i p.1 (omega (arith, more, p.2)) L.out L.to L.invariant.3 L.invariant.1 _ part _ _ row.ensures.held row.ensures.next _ end.ensures.held,
    )

pub returns : goal.returns
returns c =
    let L = c.loop-i in
    let a = c.args in
    let e : L.i ≡ a.tables = omega arith in
    record { next = omega (arith, L.invariant.1); held = L.invariant.3 ∙ ap (λ (n : ℕ). stored a.out.now a.at (row_lines n a.rows.now)) e }
