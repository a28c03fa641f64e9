-- `values::reading::clock_in` meets its contract: each way out is the case of the definition that its tests name. Assumes nothing.
use native.Mathlib.Omega.{arith}
use Rattle.text.proofs.Decimal.{four-at}
use Rattle.values.proofs.reading.clock_in.Goals as goal

pub overflow_mul-y : goal.overflow_mul-y
overflow_mul-y c =
    let s = c.args.s.now in
    let p = c.requires in
    omega (arith, c.two.ensures, p.year, four-at s 6 (omega (arith, p.long)))

pub overflow_add-y : goal.overflow_add-y
overflow_add-y c =
    let s = c.args.s.now in
    let p = c.requires in
    omega (arith, c.two.ensures, c.two-2.ensures, p.year, four-at s 6 (omega (arith, p.long)))

pub returns : goal.returns
returns c = let s = c.args.s.now in
    let p = c.requires in
    rw (c.two-d.ensures, c.two-m.ensures, c.two.ensures, c.two-2.ensures, c.three_at-t.ensures, four-at s 6 (omega (arith, p.long)))
