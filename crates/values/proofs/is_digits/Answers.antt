-- `values::is_digits` meets its contract: each way out is the case of the definition that its tests name. Assumes nothing.
use mathlib.Core.Path.{ap, ◌∙◌}
use Prim.Native.Nat.{ℕ}
use lib.ListN.{length}
use native.Mathlib.Omega.{arith}
use borrow.Author.Tests.{ne_eqb, eq-eqb, leb-true}
use lib.Dec.{leb}
use Rattle.line.proofs.Runs.{and_left, and_right}
use Rattle.text.specs.Classes.{between, is_digit}
use Rattle.values.specs.Registers.{good_digits}
use Rattle.values.proofs.is_digits.Goals as goal

pub returns-then-s-n : goal.returns-then-s-n
unfolding good_digits
returns-then-s-n c = rw (ne_eqb (length c.args.s.now) c.args.n c.if-s-n.true)

pub is_all_digits-requires : goal.is_all_digits-requires
is_all_digits-requires c =
    let n = c.args.n in
    let few = c.if-n.true in
    (omega (arith, c.if-s-n.false, leb-true 8 n (and_left (leb 8 n) (leb n 16) few)), omega (arith, c.if-s-n.false, leb-true n 16 (and_right (leb 8 n) (leb n 16) few)))

pub returns-then-n : goal.returns-then-n
returns-then-n c =
    let a = c.args in
    c.is_all_digits.ensures ∙ ap (λ (n : ℕ). good_digits n a.s.now) c.if-s-n.false

pub returns : goal.returns
unfolding good_digits between is_digit
returns c =
    let a = c.args in
    rw (c.all_between.ensures, eq-eqb (length a.s.now) a.n c.if-s-n.false)
