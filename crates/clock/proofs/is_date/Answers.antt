-- `clock::is_date` meets its contract: by its month, by the days that every month has, or by those behind them. Assumes nothing.
use Rattle.clock.proofs.Real.{no-month, early-day, late-day}
use Rattle.clock.proofs.is_date.Goals as goal

pub returns-then-not-y-m : goal.returns-then-not-y-m
returns-then-not-y-m c = no-month _ _ _ c.if-not-y-m.true

pub returns-then-d : goal.returns-then-d
returns-then-d c = early-day _ _ _ c.if-not-y-m.false c.if-d.true

pub returns : goal.returns
returns c = late-day _ _ _ _ c.days_of.ensures c.if-not-y-m.false c.if-d.false
