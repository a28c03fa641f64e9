-- `deciding::asking::energy_named` meets its contract: each way out is the case of the definition that its tests name. Assumes nothing.
use Rattle.deciding.specs.Asking.{energy_named, energy_meant, energy_at}
use borrow.Author.Rules.{rules}
use Rattle.deciding.proofs.asking.energy_named.Goals as goal

pub returns-then-same : goal.returns-then-same
unfolding energy_named energy_meant energy_at
returns-then-same c = rw (← c.same.ensures, c.if-same.true)

pub returns-then-same-2 : goal.returns-then-same-2
unfolding energy_named energy_meant energy_at
returns-then-same-2 c = rw (← c.same.ensures, c.if-same.false, ← c.same-2.ensures, c.if-same-2.true)

pub returns-then-same-3 : goal.returns-then-same-3
unfolding energy_named energy_meant energy_at
returns-then-same-3 c = rw (← c.same.ensures, c.if-same.false, ← c.same-2.ensures, c.if-same-2.false, ← c.same-3.ensures, c.if-same-3.true)

pub returns-then-same-4 : goal.returns-then-same-4
unfolding energy_named energy_meant energy_at
returns-then-same-4 c = rw (← c.same.ensures, c.if-same.false, ← c.same-2.ensures, c.if-same-2.false, ← c.same-3.ensures, c.if-same-3.false, ← c.same-4.ensures, c.if-same-4.true)

pub returns-then-same-5 : goal.returns-then-same-5
unfolding energy_named energy_meant energy_at
returns-then-same-5 c =
    rw (← c.same.ensures, c.if-same.false, ← c.same-2.ensures, c.if-same-2.false, ← c.same-3.ensures, c.if-same-3.false, ← c.same-4.ensures, c.if-same-4.false, ← c.same-5.ensures, c.if-same-5.true)

pub returns : goal.returns
unfolding energy_named energy_meant energy_at
returns c =
    rw (← c.same.ensures, c.if-same.false, ← c.same-2.ensures, c.if-same-2.false, ← c.same-3.ensures, c.if-same-3.false, ← c.same-4.ensures, c.if-same-4.false, ← c.same-5.ensures, c.if-same-5.false)
