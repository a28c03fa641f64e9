-- `deciding::asking::asks` meets its contract: each way out is the case of the definition that its tests name. Assumes nothing.
use Rattle.deciding.specs.Verdicts.{command_of, number_of, verdict_of}
use Rattle.deciding.specs.Asking.{asked}
use Rattle.frames.specs.Commands.{ask_clock, ask_serial, ask_account, bracketed}
use borrow.Author.Rules.{rules}
use Rattle.deciding.proofs.asking.asks.Goals as goal

pub returns-then-same : goal.returns-then-same
unfolding asked ask_clock ask_serial ask_account bracketed command_of number_of verdict_of
returns-then-same c = rw (← c.same.ensures, c.if-same.true)

pub returns-then-same-2 : goal.returns-then-same-2
unfolding asked ask_clock ask_serial ask_account bracketed command_of number_of verdict_of
returns-then-same-2 c = rw (← c.same.ensures, c.if-same.false, ← c.same-2.ensures, c.if-same-2.true)

pub returns-then-same-3 : goal.returns-then-same-3
unfolding asked ask_clock ask_serial ask_account bracketed command_of number_of verdict_of
returns-then-same-3 c = rw (← c.same.ensures, c.if-same.false, ← c.same-2.ensures, c.if-same-2.false, ← c.same-3.ensures, c.if-same-3.true)

pub returns : goal.returns
unfolding asked ask_clock ask_serial ask_account bracketed command_of number_of verdict_of
returns c = rw (← c.same.ensures, c.if-same.false, ← c.same-2.ensures, c.if-same-2.false, ← c.same-3.ensures, c.if-same-3.false, c.energy.ensures)
