-- `judging::is_answer` meets its contract: what does not strip into 64 bytes is no answer, and what does is judged as it came. Assumes nothing.
use mathlib.Core.Path.{refl, sym}
use Rattle.blocks.proofs.Refusals.{not-done}
use Rattle.judging.proofs.Short.{not-stripped, as-stripped}
use Rattle.judging.proofs.is_answer.Goals as goal

pub returns-in-Err : goal.returns-in-Err
returns-in-Err c = sym (not-stripped _ _ _ _ _ _ _ c.in-Err.ensures refl (not-done _))

pub returns-in-Ok : goal.returns-in-Ok
returns-in-Ok c = rw (c.is_answer_in.ensures, c.first.ensures.result_value) (sym (as-stripped _ _ _ _ _ _ _ c.in-Ok.ensures refl refl))
