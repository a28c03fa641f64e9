-- `values::characters::digits_of` meets its contract: eight digits taken apart, and the last two. Assumes nothing.
use native.Mathlib.Omega.{arith}
use Rattle.eights.proofs.Windows.{all-bytes}
use Rattle.values.proofs.Around.{serial-long, serial-apart}
use Rattle.values.proofs.characters.digits_of.Goals as goal

pub bounds-s-9 : goal.bounds-s-9
bounds-s-9 c = omega (arith, serial-long c.args.s.now c.requires)

pub bounds-s-10 : goal.bounds-s-10
bounds-s-10 c = omega (arith, serial-long c.args.s.now c.requires)

pub returns : goal.returns
returns c =
    let s = c.args.s.now in
    serial-apart s _ _ (serial-long s c.requires) (all-bytes s (λ i. omega (arith, c.type_inv.s i))) c.first_digits.ensures c.apart-d.ensures
