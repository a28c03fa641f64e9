-- `headlink::fields::read_eqm` meets its contract: what was read is handed on, or 18. Assumes nothing.
use Rattle.headlink.specs.Telling.{eqm_told}
use Rattle.headlink.proofs.fields.read_eqm.Goals as goal

pub returns-then-known : goal.returns-then-known
unfolding eqm_told
returns-then-known c =
    rw (← c.is_family.ensures, ← c.is_eqm.ensures, c.if-known.true, ← c.read_family-v.ensures, c.number.ensures, c.is_some.ensures, c.unwrap_or.ensures)

pub returns : goal.returns
unfolding eqm_told
returns c = rw (← c.is_family.ensures, ← c.is_eqm.ensures, c.if-known.false)
