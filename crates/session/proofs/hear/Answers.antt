-- `session::hear` meets its contract: each way out is the case of the definition that its tests name. Assumes nothing.
use borrow.Author.Tests.{eq-eqb, ne_eqb, lt-ltb, le-ltb}
use mathlib.Core.Path.{sym, ◌∙◌}
use Rattle.text.specs.Writing.{holding}
use Rattle.session.specs.Turns.{replied}
use Rattle.session.proofs.Laws.{some-end, no-end, fact-most}
use Rattle.session.proofs.hear.Goals as goal

pub returns-then-buf-lt-ROOM : goal.returns-then-buf-lt-ROOM
unfolding replied holding
returns-then-buf-lt-ROOM c = record { result = rw (lt-ltb _ _ c.if-buf-lt-ROOM.true); held = rw (lt-ltb _ _ c.if-buf-lt-ROOM.true) }

pub returns-then-not-is_good : goal.returns-then-not-is_good
unfolding replied holding
returns-then-not-is_good c =
    record { result = rw (le-ltb _ _ c.if-buf-lt-ROOM.false, ← c.is_good.ensures, c.if-not-is_good.true); held = rw (le-ltb _ _ c.if-buf-lt-ROOM.false, ← c.is_good.ensures, c.if-not-is_good.true) }

pub answer-requires : goal.answer-requires
answer-requires c = (sym c.is_good.ensures ∙ c.if-not-is_good.false, c.if-buf-lt-ROOM.false)

pub returns-in-Some : goal.returns-in-Some
unfolding replied holding
returns-in-Some c =
    let ended = ne_eqb _ _ (some-end c.in-Some.fact c.args.s.fact c.in-Some.ensures.some) in
    record { result = rw (le-ltb _ _ c.if-buf-lt-ROOM.false, ← c.is_good.ensures, c.if-not-is_good.false, ended, ← c.in-Some.ensures.some) c.end.ensures; held = rw (le-ltb _ _ c.if-buf-lt-ROOM.false, ← c.is_good.ensures, c.if-not-is_good.false, ended) }

pub returns-in-None : goal.returns-in-None
unfolding replied
returns-in-None c =
    let on = eq-eqb _ _ (no-end c.args.s.fact c.in-None.ensures.none (fact-most c.args.s (sym c.is_good.ensures ∙ c.if-not-is_good.false))) in
    record { result = rw (le-ltb _ _ c.if-buf-lt-ROOM.false, ← c.is_good.ensures, c.if-not-is_good.false, on) c.answer.ensures.result; held = rw (le-ltb _ _ c.if-buf-lt-ROOM.false, ← c.is_good.ensures, c.if-not-is_good.false, on) c.answer.ensures.held }
