-- `numerals::put` meets its contract: the digits put in, from the last on, with those of what is left, are all. Assumes nothing.
use native.Mathlib.Omega.{arith}
use mathlib.Core.Path.{refl, sym, ap, ◌∙◌}
use Prim.Native.Nat.{ℕ}
use Rattle.text.specs.Decimal.{decimal}
use Rattle.text.specs.Writing.{stored}
use Rattle.numerals.specs.Numerals.{digits_of}
use Rattle.numerals.proofs.Widths.{length_digits, digits-done, digit-turn}
use Rattle.numerals.proofs.put.Goals as goal

pub loop-i-init : goal.loop-i-init
loop-i-init c = (c.width-w.ensures, refl)

pub overflow_add-buf-in-loop-i : goal.overflow_add-buf-in-loop-i
overflow_add-buf-in-loop-i c = omega (arith, length_digits c.args.n)

pub bounds-buf-at : goal.bounds-buf-at
bounds-buf-at c = omega (arith, length_digits c.args.n)

pub loop-i-preserved : goal.loop-i-preserved
loop-i-preserved c =
    let L = c.loop-i in
    (L.invariant.0, sym (digit-turn L.buf c.args.at L.i L.left c.loop-i-test.true) ∙ L.invariant.1)

pub overflow_add-result : goal.overflow_add-result
overflow_add-result c = omega (arith, length_digits c.args.n)

pub returns : goal.returns
unfolding digits_of
returns c =
    let L = c.loop-i in
    let a = c.args in
    record { next = omega (arith, length_digits a.n); held = sym (digits-done L.buf a.at L.i L.left (omega arith)) ∙ L.invariant.1 ∙ ap (λ (k : ℕ). stored a.buf.now a.at (decimal k a.n)) L.invariant.0 }
