-- `values::number::two` meets its contract: each way out is the case of the definition that its tests name. Assumes nothing.
use mathlib.Core.Path.{sym}
use Rattle.text.proofs.Decimal.{two_at}
use Rattle.values.proofs.number.two.Goals as goal

pub returns : goal.returns
returns c = let a = c.args in
    rw (c.digit.ensures.value, c.digit-2.ensures.value) (sym (two_at a.s.now a.at c.requires))
