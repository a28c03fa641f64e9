-- `tariff::month_starts` meets its contract: the same tests, joined as the definition joins them. Assumes nothing.
use mathlib.Core.Path.{refl}
use Rattle.tariff.specs.Months.{month_starts}
use Rattle.tariff.proofs.month_starts.Goals as goal

pub returns : goal.returns
unfolding month_starts
returns c = refl
