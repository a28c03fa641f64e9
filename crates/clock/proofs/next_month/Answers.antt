-- `clock::next_month` meets its contract: each way out is the case of the definition that its tests name. Assumes nothing.
use Rattle.clock.specs.Seconds.{next_month}
use borrow.Author.Tests.{le-ltb, lt-ltb}
use Rattle.clock.proofs.next_month.Goals as goal

pub returns-then-m-lt12 : goal.returns-then-m-lt12
unfolding next_month
returns-then-m-lt12 c = rw (lt-ltb _ _ c.if-m-lt12.true) c.date_of.ensures

pub returns-then-y-lt2099 : goal.returns-then-y-lt2099
unfolding next_month
returns-then-y-lt2099 c = rw (le-ltb _ _ c.if-m-lt12.false, lt-ltb _ _ c.if-y-lt2099.true) c.date_of-then-y-lt2099.ensures

pub returns : goal.returns
unfolding next_month
returns c = rw (le-ltb _ _ c.if-m-lt12.false, le-ltb _ _ c.if-y-lt2099.false) c.date_of-2.ensures
