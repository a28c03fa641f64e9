-- `keeping::dirgemist_meter_check` meets its contract: it answers by whether the record is well-formed. Assumes nothing.
use Rattle.keeping.specs.Shown.{checked_as}
use Rattle.keeping.proofs.dirgemist_meter_check.Goals as goal

pub returns-in-Ok : goal.returns-in-Ok
unfolding checked_as
returns-in-Ok c = rw (c.in-Ok.ensures.0, ← c.is_formed-formed.ensures, c.in-Ok.ensures.1)

pub returns-in-Err : goal.returns-in-Err
unfolding checked_as
returns-in-Err c = rw (← c.is_formed-formed.ensures, c.in-Err.ensures.0) c.number.ensures
