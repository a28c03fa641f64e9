-- `meter::deeds::of_frame` meets its contract: each way out is the case of the definition that its tests name. Assumes nothing.
use Rattle.deciding.specs.Verdicts.{number_of}
use Rattle.meter.specs.Deeds.{frame_deed}
use borrow.Author.Rules.{rules}
use Rattle.meter.proofs.deeds.of_frame.Goals as goal

pub returns-then-hurt : goal.returns-then-hurt
unfolding frame_deed number_of
returns-then-hurt c = rw (c.if-hurt.true, ← c.hurt_at-place.ensures, c.refuse.ensures)

pub returns : goal.returns
unfolding frame_deed number_of
returns c =
    rw (c.if-hurt.false, ← c.tables_of.ensures.value, ← c.first.ensures.result_value, ← c.decide-v.ensures, c.of_verdict.ensures)
