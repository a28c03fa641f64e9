-- `damage::first_damaged` meets its contract. The invariant: the places passed, and where what is left is damaged, are the whole's. Assumes nothing.
use mathlib.Core.Path.{◌≡◌}
use Prim.Native.Nat.{◌+◌}
use lib.ListN.{drop}
use Rattle.damage.specs.First.{first_damaged}
use Rattle.damage.proofs.first_damaged.Given as goal

abbrev pub invariant-loop-at : goal.invariant-loop-at
invariant-loop-at l = l.at + first_damaged (drop l.at l.s) ≡ first_damaged l.s
