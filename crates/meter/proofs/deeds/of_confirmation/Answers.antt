-- `meter::deeds::of_confirmation` meets its contract: each way out is the case of the definition that its tests name. Assumes nothing.
use Rattle.meter.specs.Deeds.{confirmation_deed}
use borrow.Author.Rules.{rules}
use Rattle.meter.proofs.deeds.of_confirmation.Goals as goal

pub returns-then-marked : goal.returns-then-marked
unfolding confirmation_deed
returns-then-marked c = rw (c.if-marked.true, c.rest.ensures)

pub returns-then-wants_block : goal.returns-then-wants_block
unfolding confirmation_deed
returns-then-wants_block c =
    rw (c.if-marked.false, ← c.speed_said-speed.ensures, ← c.first-five.ensures.result_value, ← c.wants_block.ensures, c.if-wants_block.true, c.read_out.ensures)

pub returns-then-wants_periods : goal.returns-then-wants_periods
unfolding confirmation_deed
returns-then-wants_periods c =
    rw (c.if-marked.false, ← c.speed_said-speed.ensures, ← c.first-five.ensures.result_value, ← c.wants_block.ensures, c.if-wants_block.false, ← c.wants_periods.ensures, c.if-wants_periods.true, c.read_out-then-wants_periods.ensures)

pub returns-then-wants_program : goal.returns-then-wants_program
unfolding confirmation_deed
returns-then-wants_program c =
    rw (c.if-marked.false, ← c.speed_said-speed.ensures, ← c.first-five.ensures.result_value, ← c.wants_block.ensures, c.if-wants_block.false, ← c.wants_periods.ensures, c.if-wants_periods.false, ← c.wants_program.ensures, c.if-wants_program.true, c.invite.ensures)

pub returns : goal.returns
unfolding confirmation_deed
returns c =
    rw (c.if-marked.false, ← c.speed_said-speed.ensures, ← c.first-five.ensures.result_value, ← c.wants_block.ensures, c.if-wants_block.false, ← c.wants_periods.ensures, c.if-wants_periods.false, ← c.wants_program.ensures, c.if-wants_program.false, c.rest-2.ensures)
