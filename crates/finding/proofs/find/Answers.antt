-- `finding::find` meets its contract: the search from the place reached is the lookup. Assumes nothing.
use mathlib.Core.Path.{refl, sym, ◌∙◌}
use native.Mathlib.Omega.{arith}
use Rattle.reading.proofs.Inside.{read-inside}
use Rattle.finding.proofs.Finding.{none-sought, ends, hits, goes_on}
use Rattle.finding.proofs.find.Goals as goal

pub loop-set-init : goal.loop-set-init
loop-set-init c = none-sought _ _

pub returns-in-Ok-None : goal.returns-in-Ok-None
returns-in-Ok-None c =
    ends _ _ _ _ _ c.loop-set.invariant (rw c.in-Ok-None.field-0-is at c.in-Ok-None.ensures) (λ k. omega (arith, k))

pub returns-in-Err : goal.returns-in-Err
returns-in-Err c =
    ends _ _ _ _ _ c.loop-set.invariant c.in-Err.ensures (λ k. omega (arith, k))

pub overflow_add-read : goal.overflow_add-read
overflow_add-read c =
    let i = read-inside _ _ _ (rw c.in-Ok-Some.field-0-is at c.in-Ok-Some.ensures) refl in
    omega (arith, c.loop-set.invariant.few, i.next)

pub overflow_add-bracket : goal.overflow_add-bracket
overflow_add-bracket c =
    let i = read-inside _ _ _ (rw c.in-Ok-Some.field-0-is at c.in-Ok-Some.ensures) refl in
    omega (arith, i.next)

pub slice_bounds-same-start : goal.slice_bounds-same-start
slice_bounds-same-start c =
    let i = read-inside _ _ _ (rw c.in-Ok-Some.field-0-is at c.in-Ok-Some.ensures) refl in
    omega (arith, i.next, i.fits)

pub slice_bounds-same-end : goal.slice_bounds-same-end
slice_bounds-same-end c =
    let i = read-inside _ _ _ (rw c.in-Ok-Some.field-0-is at c.in-Ok-Some.ensures) refl in
    omega (arith, i.next, i.fits)

pub returns-then-same : goal.returns-then-same
returns-then-same c =
    hits _ _ _ _ _ c.loop-set.invariant (rw c.in-Ok-Some.field-0-is at c.in-Ok-Some.ensures) refl
    (sym c.same.ensures ∙ c.if-same.true)

pub loop-set-smaller : goal.loop-set-smaller
loop-set-smaller c =
    let i = read-inside _ _ _ (rw c.in-Ok-Some.field-0-is at c.in-Ok-Some.ensures) refl in
    omega (arith, i.next, i.fits)

pub loop-set-preserved : goal.loop-set-preserved
loop-set-preserved c =
    goes_on _ _ _ _ _ c.loop-set.invariant (rw c.in-Ok-Some.field-0-is at c.in-Ok-Some.ensures) refl
    (sym c.same.ensures ∙ c.if-same.false)
