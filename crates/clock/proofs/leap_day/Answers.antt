-- `clock::leap_day` meets its contract: what the test comes to as a number. Assumes nothing.
use mathlib.Core.Path.{◌≡◌, refl}
use mathlib.Core.Bool.{Bool, true, false, cond}
use mir.Val.{bool_byte}
use Rattle.clock.proofs.leap_day.Goals as goal

counted : (t : Bool) → bool_byte t ≡ cond t 1 0
counted true = refl
counted false = refl

pub returns-clause-value : goal.returns-clause-value
returns-clause-value c = rw c.is_leap.ensures (counted _)
