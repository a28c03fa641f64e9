-- `values::reading::read_clock` meets its contract: each way out is the case of the definition that its tests name. Assumes nothing.
use Rattle.values.specs.Reading.{clock_read, clock_found}
use Rattle.values.proofs.Found.{let-through}
use Rattle.text.specs.Layout.{pattern}
use Rattle.values.proofs.Fields.{clock-fields}
use mathlib.Core.Path.{sym, ◌∙◌}
use Rattle.values.proofs.reading.read_clock.Goals as goal

pub clock_in-c-requires : goal.clock_in-c-requires
unfolding pattern
clock_in-c-requires c =
    let h = sym c.has_form.ensures ∙ c.if-has_form.true in
    clock-fields _ h

pub returns-then-has_form : goal.returns-then-has_form
unfolding clock_read pattern
returns-then-has_form c =
    rw (← c.has_form.ensures, c.if-has_form.true, c.then_some.ensures, c.is_clock.ensures, c.clock_in-c.ensures) (let-through clock_found _ _)

pub returns : goal.returns
unfolding clock_read pattern
returns c = rw (← c.has_form.ensures, c.if-has_form.false)
