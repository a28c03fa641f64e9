-- `mercuryshow::put_energy` meets its contract: four lines, put in one after the other. Assumes nothing.
use mathlib.Core.Path.{refl}
use native.Mathlib.Omega.{arith}
use Rattle.line.specs.Quoted.{chars}
use Rattle.numerals.proofs.Begun.{four-put}
use Rattle.mercuryshow.specs.Shown.{quantity_line, energy_text}
use Rattle.mercuryshow.proofs.Sizes.{quantity-line-few, energy-long}
use Rattle.mercuryshow.proofs.put_energy.Goals as goal

pub put_line-third-requires : goal.put_line-third-requires
put_line-third-requires c = (refl, omega (arith, quantity-line-few (chars "A+ ") c.args.e.active_in refl, c.put_line-second.ensures.next))

pub put_line-fourth-requires : goal.put_line-fourth-requires
put_line-fourth-requires c =
    (refl, omega (arith, quantity-line-few (chars "A+ ") c.args.e.active_in refl, quantity-line-few (chars "A- ") c.args.e.active_out refl, c.put_line-second.ensures.next, c.put_line-third.ensures.next))

pub put_line-requires : goal.put_line-requires
put_line-requires c =
    (refl, omega (arith, quantity-line-few (chars "A+ ") c.args.e.active_in refl, quantity-line-few (chars "A- ") c.args.e.active_out refl, quantity-line-few (chars "R+ ") c.args.e.reactive_in refl, c.put_line-second.ensures.next, c.put_line-third.ensures.next, c.put_line-fourth.ensures.next))

pub returns : goal.returns
unfolding energy_text
returns c =
    let a = c.args in
    let first = c.put_line-second.ensures in
    let second = c.put_line-third.ensures in
    let third = c.put_line-fourth.ensures in
    let fourth = c.put_line.ensures in
    record { next = omega (arith, energy-long a.e, first.next, second.next, third.next, fourth.next); held = four-put a.out.now 0 (quantity_line (chars "A+ ") a.e.active_in) (quantity_line (chars "A- ") a.e.active_out) (quantity_line (chars "R+ ") a.e.reactive_in) (quantity_line (chars "R- ") a.e.reactive_out) _ _ _ _ _ _ _ first.held first.next second.held second.next third.held third.next fourth.held }
