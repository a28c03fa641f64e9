-- `values::reading::read_table` meets its contract: each way out is the case of the definition that its tests name. Assumes nothing.
use Rattle.values.specs.Reading.{table_read}
use Rattle.text.specs.Layout.{pattern}
use Rattle.values.proofs.Fields.{table-fields}
use mathlib.Core.Path.{sym, ◌∙◌}
use native.Mathlib.Omega.{arith}
use Rattle.values.proofs.reading.read_table.Goals as goal

pub two-requires : goal.two-requires
unfolding pattern
two-requires c =
    let h = sym c.has_form.ensures ∙ c.if-has_form.true in
    omega (arith, (table-fields _ h).long)

pub table_of-requires : goal.table_of-requires
unfolding pattern
table_of-requires c =
    let h = sym c.has_form.ensures ∙ c.if-has_form.true in
    omega (arith, c.two.ensures, (table-fields _ h).number)

pub returns-then-has_form : goal.returns-then-has_form
unfolding table_read pattern
returns-then-has_form c = rw (← c.has_form.ensures, c.if-has_form.true, c.table_of.ensures, c.two.ensures)

pub returns : goal.returns
unfolding table_read pattern
returns c = rw (← c.has_form.ensures, c.if-has_form.false)
