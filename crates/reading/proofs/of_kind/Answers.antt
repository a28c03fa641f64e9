-- `reading::of_kind` meets its contract: one kind or the other. Assumes nothing.
use Rattle.reading.specs.Sets.{of_kind}
use Rattle.reading.proofs.of_kind.Goals as goal

pub returns-then-value : goal.returns-then-value
unfolding of_kind
returns-then-value c =
    rw c.if-value.true c.is_value.ensures

pub returns : goal.returns
unfolding of_kind
returns c =
    rw c.if-value.false c.is_address.ensures
