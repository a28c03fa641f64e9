-- `numerals::put_line` meets its contract: two numbers, the space and LF, put in one after the other. Assumes nothing.
use native.Mathlib.Omega.{arith}
use mathlib.Core.List.{[], ◌∷◌}
use Rattle.numerals.specs.Numerals.{digits_of, number_line}
use Rattle.numerals.proofs.Widths.{digits-few, line-long}
use Rattle.numerals.proofs.Begun.{four-put}
use Rattle.numerals.proofs.put_line.Goals as goal

pub put-space-requires : goal.put-space-requires
put-space-requires c = omega (arith, digits-few c.args.n)

pub put-second-requires : goal.put-second-requires
put-second-requires c = omega (arith, digits-few c.args.n, c.put-space.ensures.next)

pub put-end-requires : goal.put-end-requires
put-end-requires c = let a = c.args in
    omega (arith, digits-few a.n, digits-few a.m, c.put-space.ensures.next, c.put-second.ensures.next)

pub put-requires : goal.put-requires
put-requires c =
    let a = c.args in
    omega (arith, digits-few a.n, digits-few a.m, c.put-space.ensures.next, c.put-second.ensures.next, c.put-end.ensures.next)

pub returns : goal.returns
unfolding number_line
returns c =
    let a = c.args in
    let number = c.put-space.ensures in
    let space = c.put-second.ensures in
    let other = c.put-end.ensures in
    let end = c.put.ensures in
    record { next = omega (arith, line-long a.n a.m, number.next, space.next, other.next, end.next); held = four-put a.buf.now a.at (digits_of a.n) (32 ∷ []) (digits_of a.m) (10 ∷ []) _ _ _ _ _ _ _ number.held number.next space.held space.next other.held other.next end.held }
