-- `post::line_place` meets its contract: each way out is the place that its tests name. Assumes nothing.
use Rattle.std.proofs.Common.{arith}
use Rattle.post.proofs.LinePlaces.{tens-fits, unit-fits, place_none, place-stray, place-tens, place-unit}
use Rattle.post.proofs.line_place.Goals as goal

pub returns-then-tables-above : goal.returns-then-tables-above
returns-then-tables-above c = place_none c.args.tables c.args.above c.args.s.now c.if-tables-above.true

pub returns-then-stray-lt7 : goal.returns-then-stray-lt7
returns-then-stray-lt7 c =
    let a = c.args in
    let f = c.requires in
    place-stray a.tables a.above a.s.now a.stray f (omega arith) (λ e. absurd (omega arith)) (λ e. absurd (omega arith))

pub bounds-s-6 : goal.bounds-s-6
bounds-s-6 c =
    let a = c.args in
    let f = c.requires in
    omega (arith, f.in-text)

pub overflow_sub-tens : goal.overflow_sub-tens
overflow_sub-tens c =
    let a = c.args in
    let f = c.requires in
    let t = tens-fits a.s.now (f.before 6 (omega arith)) in
    omega (arith, t.0, t.1)

pub overflow_mul-tens : goal.overflow_mul-tens
overflow_mul-tens c =
    let a = c.args in
    let f = c.requires in
    let t = tens-fits a.s.now (f.before 6 (omega arith)) in
    omega (arith, t.0, t.1)

pub returns-then-tables-tens : goal.returns-then-tables-tens
returns-then-tables-tens c =
    let a = c.args in
    let f = c.requires in
    place-tens a.tables a.above a.s.now a.stray f (omega arith) (omega arith) (λ z. omega (arith, z.0, z.1))

pub overflow_add-tens : goal.overflow_add-tens
overflow_add-tens c =
    let a = c.args in
    let f = c.requires in
    let t = tens-fits a.s.now (f.before 6 (omega arith)) in
    omega (arith, t.0, t.1)

pub returns-then-tens-above : goal.returns-then-tens-above
returns-then-tens-above c =
    let a = c.args in
    let f = c.requires in
    place-tens a.tables a.above a.s.now a.stray f (omega arith) (omega arith) (λ z. omega (arith, z.0, z.1))

pub returns-then-stray-lt8 : goal.returns-then-stray-lt8
returns-then-stray-lt8 c = let a = c.args in
    let f = c.requires in
    place-stray a.tables a.above a.s.now a.stray f (omega arith) (λ e. (omega arith, omega arith)) (λ e. absurd (omega arith))

pub bounds-s-7 : goal.bounds-s-7
bounds-s-7 c = let a = c.args in
    let f = c.requires in
    omega (arith, f.in-text)

pub overflow_sub-number : goal.overflow_sub-number
overflow_sub-number c = let a = c.args in
    let f = c.requires in
    let w = unit-fits a.s.now (f.before 7 (omega arith)) in
    omega (arith, w.0, w.1)

pub overflow_add-number : goal.overflow_add-number
overflow_add-number c = let a = c.args in
    let f = c.requires in
    let t = tens-fits a.s.now (f.before 6 (omega arith)) in
    let w = unit-fits a.s.now (f.before 7 (omega arith)) in
    omega (arith, w.0, w.1, t.0, t.1)

pub returns-then-number-above : goal.returns-then-number-above
returns-then-number-above c = let a = c.args in
    let f = c.requires in
    place-unit a.tables a.above a.s.now a.stray f (omega arith) (omega arith) (omega arith, omega arith) (λ z. omega (arith, z.0, z.1))

pub returns-then-tables-number : goal.returns-then-tables-number
returns-then-tables-number c = let a = c.args in
    let f = c.requires in
    place-unit a.tables a.above a.s.now a.stray f (omega arith) (omega arith) (omega arith, omega arith) (λ z. omega (arith, z.0, z.1))

pub returns : goal.returns
returns c = let a = c.args in
    let f = c.requires in
    place-stray a.tables a.above a.s.now a.stray f (omega arith) (λ e. (omega arith, omega arith)) (λ e. (omega arith, omega arith))
