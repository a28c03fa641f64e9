-- `set_after` meets its contract: what is left to read from the place reached ends where all of it from the start ends. Assumes nothing.
use mathlib.Core.Path.{◌≡◌}
use Prim.Native.Nat.{◌-◌}
use Rattle.reading.specs.Whole.{place_after}
use Rattle.reader.proofs.set_after.Given as goal

abbrev pub invariant-loop-read : goal.invariant-loop-read
invariant-loop-read l = place_after l.«data» (l.n - l._read) l.at ≡ place_after l.«data» l.n 0
