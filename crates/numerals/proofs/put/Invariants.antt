-- `numerals::put` meets its contract: the digits put in, from the last on, with those of what is left, are all. Assumes nothing.
use mathlib.Core.Path.{◌≡◌}
use Rattle.text.specs.Decimal.{decimal}
use Rattle.text.specs.Writing.{stored}
use Rattle.numerals.specs.Numerals.{width_of}
use Rattle.numerals.proofs.put.Given as goal

abbrev pub invariant-loop-i : goal.invariant-loop-i
invariant-loop-i l = (l.w ≡ width_of l.n) × (stored l.buf l.at (decimal l.i l.left) ≡ stored l.initial.buf l.at (decimal l.w l.n))
