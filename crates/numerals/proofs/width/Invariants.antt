-- `numerals::width` meets its contract: the digits counted, with those of what is left, are all. Assumes nothing.
use mathlib.Core.Path.{◌≡◌}
use Prim.Native.Nat.{◌+◌, ◌-◌}
use Rattle.numerals.specs.Numerals.{width_within, width_of}
use Rattle.numerals.proofs.width.Given as goal

abbrev pub invariant-loop-w : goal.invariant-loop-w
invariant-loop-w l = width_within (20 - l.w) l.left + l.w ≡ width_of l.n + 1
