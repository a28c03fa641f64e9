-- `datasets::put_kept_set` meets its contract: each way out is the case of the name that its tests name. Assumes nothing.
use borrow.Author.Tests.{eq-eqb, ne_eqb}
use Rattle.text.specs.Decimal.{decimal}
use Rattle.values.specs.Family.{import_name}
use Rattle.datasets.specs.Sets.{data_set, energy_name}
use Rattle.datasets.proofs.put_kept_set.Goals as goal

pub returns-then-out : goal.returns-then-out
unfolding data_set energy_name import_name decimal
returns-then-out c =
    rw c.if-out.true (record { next = c.put_counter_set.ensures.next; held = c.put_counter_set.ensures.held })

pub returns-then-family-eq0 : goal.returns-then-family-eq0
unfolding data_set energy_name import_name decimal
returns-then-family-eq0 c =
    rw (c.if-out.false, eq-eqb _ _ c.if-family-eq0.true) (record { next = c.put_counter_set-then-family-eq0.ensures.next; held = c.put_counter_set-then-family-eq0.ensures.held })

pub returns : goal.returns
unfolding data_set energy_name import_name decimal
returns c =
    rw (c.if-out.false, ne_eqb _ _ c.if-family-eq0.false) (record { next = c.put_counter_set-2.ensures.next; held = c.put_counter_set-2.ensures.held })
