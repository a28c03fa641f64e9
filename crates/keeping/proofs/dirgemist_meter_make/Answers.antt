-- `keeping::dirgemist_meter_make` meets its contract: what was made, with 1, or the blank meter with the refusal's number. Assumes nothing.
use Rattle.std.proofs.Common.{refl}
use Rattle.state.specs.Making.{told}
use Rattle.keeping.proofs.dirgemist_meter_make.Goals as goal

pub returns-in-Ok : goal.returns-in-Ok
unfolding told
returns-in-Ok c = rw (← c.in-Ok.ensures) (refl, refl)

pub returns-in-Err : goal.returns-in-Err
unfolding told
returns-in-Err c = rw (← c.in-Err.ensures) (c.number.ensures, c.blank.ensures)
