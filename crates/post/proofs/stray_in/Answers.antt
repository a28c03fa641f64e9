-- `post::stray_in` meets its contract: the smallest of the columns that stray so far, in each window. Assumes nothing.
use Rattle.std.proofs.Common.{◌≡◌, min, ◌+◌, drop, refl, arith}
use Rattle.post.specs.Columns.{straying}
use Rattle.post.proofs.Strays.{least-none, least_more, least-all}
use Rattle.post.proofs.stray_in.Goals as goal

pub overflow_add-end : goal.overflow_add-end
overflow_add-end c = omega (arith, c.requires.6)

pub loop-j-init : goal.loop-j-init
loop-j-init c = (refl, omega arith, least-none _ _ _)

pub column_fits-requires : goal.column_fits-requires
column_fits-requires c =
    let p = c.requires in
    (p.0, p.1, omega (arith, p.4, p.5, p.6), omega (arith, p.4, p.5, p.6, p.7, p.8))

pub overflow_add-second : goal.overflow_add-second
overflow_add-second c = omega (arith, c.requires.4, c.requires.6)

pub column_fits-requires-in-loop-j : goal.column_fits-requires-in-loop-j
column_fits-requires-in-loop-j c =
    let p = c.requires in
    (p.0, p.1, omega (arith, p.4, p.5, p.6), omega (arith, p.4, p.5, p.6, p.7, p.8))

pub overflow_add-second-in-loop-j : goal.overflow_add-second-in-loop-j
overflow_add-second-in-loop-j c = omega (arith, c.requires.4, c.requires.6)

pub overflow_add-third : goal.overflow_add-third
overflow_add-third c = omega (arith, c.requires.4, c.requires.6)

pub column_fits-requires-in-loop-j-2 : goal.column_fits-requires-in-loop-j-2
column_fits-requires-in-loop-j-2 c =
    let p = c.requires in
    (p.2, p.3, omega (arith, p.4, p.5, p.6), omega (arith, p.4, p.5, p.6, p.7, p.8))

pub overflow_add-third-in-loop-j : goal.overflow_add-third-in-loop-j
overflow_add-third-in-loop-j c = omega (arith, c.requires.4, c.requires.6)

pub loop-j-preserved : goal.loop-j-preserved
loop-j-preserved c =
    let l = c.loop-j in
    let a = c.args in
    let f = c.column_fits in
    let g = c.column_fits-in-loop-j in
    let h = c.column_fits-in-loop-j-2 in
    let e : c.min-column.result ≡ min (min l.column (straying f.result l.j (a.third + 16))) (min (straying g.result (a.second + l.j) (a.third + 16)) (straying h.result (a.third + l.j) (a.third + 16))) =
    rw (c.min-column.ensures, c.min.ensures, c.min-in-loop-j.ensures, c.straying-first.ensures, c.straying-next.ensures, c.straying-last.ensures) in (
      l.invariant.0,
      omega arith,
      rw e (least_more (drop a.at a.text.now) a.second a.third l.j l.column f.result g.result h.result f.ensures g.ensures h.ensures l.invariant.2),
    )

pub returns : goal.returns
returns c =
    let l = c.loop-j in
    let a = c.args in
    let e : l.j ≡ 16 = omega arith in
    least-all (drop a.at a.text.now) a.second a.third l.column c.requires.4 c.requires.5 (rw e at l.invariant.2)
