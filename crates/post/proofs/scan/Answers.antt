-- `post::scan` meets its contract: what is right below the lines passed is right of the whole. Assumes nothing.
use Rattle.std.proofs.Common.{◌≡◌, ◌+◌, ◌*◌, ◌/◌, ◌≤◌, length, drop, sym, refl, arith, length-drop}
use Rattle.post.proofs.Places.{stands, passed_none, passed-more}
use Rattle.post.proofs.Answers.{part-is}
use Rattle.post.proofs.scan.Goals as goal

pub loop-l-init : goal.loop-l-init
loop-l-init c = (refl, omega arith, passed_none _ _)

pub overflow_mul-at : goal.overflow_mul-at
overflow_mul-at c = omega (arith, c.loop-l.invariant.0)

pub stray_at-stray-requires : goal.stray_at-stray-requires
stray_at-stray-requires c = omega (arith, c.loop-l.invariant.0)

pub next_number-requires : goal.next_number-requires
next_number-requires c = (omega (arith, c.loop-l.invariant.0), c.stray_at-stray.ensures)

pub returns-in_default : goal.returns-in_default
returns-in_default c = record { passed = c.loop-l.invariant.2; stops = λ h. c.in_default.ensures; strays = c.stray_at-stray.ensures }

pub loop-l-preserved : goal.loop-l-preserved
loop-l-preserved c = let l = c.loop-l in
    let a = c.args in
    let t = a.text.now in
    let h : 36 * l.l + 36 ≤ length t = omega (arith, l.invariant.0) in
    let st = stands a.tables l.above _ (drop (36 * l.l) t) (rw (length-drop (36 * l.l) t) (omega arith)) (sym c.in-Some.ensures.1) (λ e. omega (arith, c.in-Some.ensures.0)) in
    let e : 36 * l.l + 36 ≡ 36 * (l.l + 1) = omega arith in
    (l.invariant.0, omega arith, rw e at (passed-more a.tables l.above (36 * l.l) _ t c.requires h l.invariant.2 st))

pub overflow_mul-at-2 : goal.overflow_mul-at-2
overflow_mul-at-2 c = omega (arith, c.loop-l.invariant.0)

pub slice_bounds-first_stray-count : goal.slice_bounds-first_stray-count
slice_bounds-first_stray-count c = omega (arith, c.loop-l.invariant.0)

pub slice_bounds-first_stray-start : goal.slice_bounds-first_stray-start
slice_bounds-first_stray-start c = omega (arith, c.loop-l.invariant.0)

pub slice_bounds-first_stray-end : goal.slice_bounds-first_stray-end
slice_bounds-first_stray-end c = omega (arith, c.loop-l.invariant.0)

pub first_stray-stray-requires : goal.first_stray-stray-requires
first_stray-stray-requires c =
    let l = c.loop-l in
    let t = c.args.text.now in
    rw (part-is t _, length-drop _ t) (omega (arith, l.invariant.0))

pub returns : goal.returns
returns c =
    let l = c.loop-l in
    let t = c.args.text.now in
    let n = length t / 36 in
    let e : l.l ≡ n = omega (arith, l.invariant.0) in
    record {
      passed = rw e at l.invariant.2;
      stops = λ h. absurd (omega (arith, length-drop (36 * n) t));
      strays = rw (part-is t (36 * n)) at c.first_stray-stray.ensures;
    }
