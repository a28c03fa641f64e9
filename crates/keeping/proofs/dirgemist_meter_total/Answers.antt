-- `keeping::dirgemist_meter_total` meets its contract: it shows by whether the record is well-formed. Assumes nothing.
use Rattle.std.proofs.Common.{refl}
use Rattle.keeping.specs.Shown.{shown_as}
use Rattle.keeping.proofs.dirgemist_meter_total.Goals as goal

pub returns-in-Ok : goal.returns-in-Ok
unfolding shown_as
returns-in-Ok c = rw (c.in-Ok.ensures.0, ← c.is_formed-formed.ensures, c.in-Ok.ensures.1) (refl, refl)

pub returns-in-Err : goal.returns-in-Err
unfolding shown_as
returns-in-Err c = rw (← c.is_formed-formed.ensures, c.in-Err.ensures.1) (c.number.ensures, refl)
