-- `meter::deeds::speed_said` meets its contract: each way out is the case of the definition that its tests name. Assumes nothing.
use Rattle.frames.specs.Session.{speed_said}
use borrow.Author.Tests.{eq-eqb, ne_eqb}
use Rattle.meter.proofs.deeds.speed_said.Goals as goal

pub returns-then-v-eq53 : goal.returns-then-v-eq53
unfolding speed_said
returns-then-v-eq53 c = rw (eq-eqb _ _ c.if-v-eq53.true)

pub returns-else-v-eq53 : goal.returns-else-v-eq53
unfolding speed_said
returns-else-v-eq53 c = rw (ne_eqb _ _ c.if-v-eq53.false)
