-- `state::not_made` meets its contract: each way out is the case of the definition that its tests name. Assumes nothing.
use Rattle.state.specs.Making.{facts_refused, number_of, told}
use Rattle.state.proofs.not_made.Goals as goal

pub returns-then-not-is_edition : goal.returns-then-not-is_edition
unfolding facts_refused number_of told
returns-then-not-is_edition c = rw (← c.is_edition.ensures, c.if-not-is_edition.true)

pub returns-then-not-is_family : goal.returns-then-not-is_family
unfolding facts_refused number_of told
returns-then-not-is_family c = rw (← c.is_edition.ensures, c.if-not-is_edition.false, ← c.is_family.ensures, c.if-not-is_family.true)

pub returns : goal.returns
unfolding facts_refused number_of told
returns c = rw (← c.is_edition.ensures, c.if-not-is_edition.false, ← c.is_family.ensures, c.if-not-is_family.false)
