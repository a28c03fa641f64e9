-- `eights::keeps_form` meets its contract: the code is the definition. Assumes nothing.
use Rattle.std.proofs.Common.{refl}
use Rattle.eights.specs.Lanes.{keeps}
use Rattle.eights.proofs.keeps_form.Goals as goal

pub returns : goal.returns
unfolding keeps
returns c = refl
