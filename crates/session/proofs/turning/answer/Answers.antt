-- `session::turning::answer` meets its contract: each way out is the case of the definition that its tests name. Assumes nothing.
use Rattle.session.specs.Turns.{answered}
use Rattle.text.specs.Writing.{holding}
use Rattle.session.proofs.Laws.{count_most}
use Rattle.session.proofs.turning.answer.Goals as goal

pub returns-then-is_nak : goal.returns-then-is_nak
unfolding answered holding
returns-then-is_nak c = record { result = rw (← c.is_nak.ensures, c.if-is_nak.true) c.end.ensures; held = rw (← c.is_nak.ensures, c.if-is_nak.true) }

pub is_right-requires : goal.is_right-requires
is_right-requires c = count_most _ c.requires.0

pub returns-then-is_right : goal.returns-then-is_right
unfolding answered
returns-then-is_right c = record { result = rw (← c.is_nak.ensures, c.if-is_nak.false, ← c.is_right.ensures, c.if-is_right.true) c.go_on.ensures.result; held = rw (← c.is_nak.ensures, c.if-is_nak.false, ← c.is_right.ensures, c.if-is_right.true) c.go_on.ensures.held }

pub returns : goal.returns
unfolding answered holding
returns c = record { result = rw (← c.is_nak.ensures, c.if-is_nak.false, ← c.is_right.ensures, c.if-is_right.false) c.end-2.ensures; held = rw (← c.is_nak.ensures, c.if-is_nak.false, ← c.is_right.ensures, c.if-is_right.false) }
