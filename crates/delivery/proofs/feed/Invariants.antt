-- `delivery::feed` meets its contract: what is counted so far with what is left is the whole. Assumes nothing.
use Rattle.delivery.proofs.Counting.{Feeding}
use Rattle.delivery.proofs.feed.Given as goal

abbrev pub invariant-loop-b : goal.invariant-loop-b
invariant-loop-b l = Feeding l.initial.fed.next l.bytes l.b-index l.fed.acknowledged l.fed.next
