-- `keeping::check` meets its contract: each way out is the case of the definition that its tests name. Assumes nothing.
use Rattle.std.proofs.Common.{sym, ◌∙◌}
use Rattle.keeping.proofs.check.Goals as goal

pub returns-then-not-is_edition : goal.returns-then-not-is_edition
returns-then-not-is_edition c =
    (rw (← c.is_edition.ensures, c.if-not-is_edition.true), λ total. rw (← c.is_edition.ensures, c.if-not-is_edition.true))

pub returns-then-formed : goal.returns-then-formed
returns-then-formed c = (sym c.is_edition.ensures ∙ c.if-not-is_edition.false, c.if-formed.true)

pub returns : goal.returns
returns c =
    (rw (← c.is_edition.ensures, c.if-not-is_edition.false, c.if-formed.false), λ total. rw (← c.is_edition.ensures, c.if-not-is_edition.false, c.if-formed.false))
