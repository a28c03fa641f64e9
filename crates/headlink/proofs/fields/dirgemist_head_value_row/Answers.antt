-- `headlink::fields::dirgemist_head_value_row` meets its contract: the characters of a good one, or zeros. Assumes nothing.
use mathlib.Core.Path.{sym, ap, ◌∙◌}
use Rattle.values.specs.Registers.{good_row}
use Rattle.values.proofs.Rules.{no_row}
use Rattle.headlink.proofs.Telling.{row_told, row-untold}
use Rattle.headlink.proofs.fields.dirgemist_head_value_row.Goals as goal

pub returns-then-value-ne-ROW_LENGTH : goal.returns-then-value-ne-ROW_LENGTH
returns-then-value-ne-ROW_LENGTH c =
    let s = c.args.value.now in
    row-untold _ _ _ s (no_row s c.if-value-ne-ROW_LENGTH.true) c.tell.ensures

pub returns-then-is_row : goal.returns-then-is_row
returns-then-is_row c =
    let s = c.args.value.now in
    row_told _ _ _ s _ (ap good_row (sym c.array_of-row.ensures) ∙ sym c.is_row.ensures ∙ c.if-is_row.true) c.array_of-row.ensures c.tell-then-is_row.ensures

pub returns : goal.returns
returns c =
    let s = c.args.value.now in
    row-untold _ _ _ s (ap good_row (sym c.array_of-row.ensures) ∙ sym c.is_row.ensures ∙ c.if-is_row.false) c.tell-2.ensures
