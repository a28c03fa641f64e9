-- Where counters end: there is room for one at least, and for no more of what went out than of what came in. Assumes nothing.
use mathlib.Core.Bool.{Bool, true, false, cond}
use Prim.Native.Nat.{ℕ, ◌≤◌}
use native.Mathlib.Omega.{arith}
use lib.Dec.{eqb}
use Rattle.values.specs.Family.{counter_end, export_end}

pub counter-end-some : (family : ℕ) → 1 ≤ counter_end family
unfolding counter_end
counter-end-some family = by (eqb family 0)
  where
    by : (b : Bool) → 1 ≤ cond b 1000000000 100000000
    by true = omega arith
    by false = omega arith

pub export-end-some : (family : ℕ) → 1 ≤ export_end family
unfolding export_end
export-end-some family = by (eqb family 0)
  where
    by : (b : Bool) → 1 ≤ cond b 1 100000000
    by true = omega arith
    by false = omega arith

pub export-end-low : (family : ℕ) → export_end family ≤ counter_end family
unfolding export_end counter_end
export-end-low family = by (eqb family 0)
  where
    by : (b : Bool) → cond b 1 100000000 ≤ cond b 1000000000 100000000
    by true = omega arith
    by false = omega arith
