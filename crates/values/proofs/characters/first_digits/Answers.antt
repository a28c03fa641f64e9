-- `values::characters::first_digits` meets its contract: what is before the space and what is after it, joined. Assumes nothing.
use native.Mathlib.Omega.{arith}
use Rattle.values.proofs.Around.{serial-around, serial-first, serial-long}
use Rattle.values.proofs.characters.first_digits.Goals as goal

pub eight-requires : goal.eight-requires
eight-requires c = omega (arith, serial-long c.args.s.now c.requires)

pub overflow_sub-before : goal.overflow_sub-before
overflow_sub-before c = omega (arith, serial-first c.args.s.now _ c.requires c.eight.ensures.0)

pub eight-requires-2 : goal.eight-requires-2
eight-requires-2 c = omega (arith, serial-long c.args.s.now c.requires)

pub overflow_sub-after : goal.overflow_sub-after
overflow_sub-after c = omega (arith, (serial-around c.args.s.now _ _ c.requires c.eight.ensures.0 c.eight-2.ensures.0).last)

pub returns : goal.returns
returns c =
    (serial-around c.args.s.now _ _ c.requires c.eight.ensures.0 c.eight-2.ensures.0).all
