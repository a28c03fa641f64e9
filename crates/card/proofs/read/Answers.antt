-- `card::read` meets its contract: 16, or the card read for as many tables as the edition has. Assumes nothing.
use mathlib.Core.Path.{refl}
use Rattle.values.proofs.Editions.{is_one, is_none}
use Rattle.card.proofs.read.Goals as goal

pub returns-then-not-is_edition : goal.returns-then-not-is_edition
returns-then-not-is_edition c =
    record { none = λ _. (refl, refl, refl, refl); some = λ e. absurd (is_none _ _ c.is_edition.ensures c.if-not-is_edition.true e) }

pub returns : goal.returns
returns c = record { none = λ e. absurd (is_one _ _ c.is_edition.ensures c.if-not-is_edition.false e); some = λ _. (rw (← c.tables_of.ensures.value) c.read_of.ensures) }
