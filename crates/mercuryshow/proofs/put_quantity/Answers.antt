-- `mercuryshow::put_quantity` meets its contract: a number, or a dash. Assumes nothing.
use native.Mathlib.Omega.{arith}
use Rattle.numerals.proofs.Widths.{digits-few}
use Rattle.mercuryshow.specs.Shown.{quantity_text}
use Rattle.mercuryshow.proofs.put_quantity.Goals as goal

pub put-requires : goal.put-requires
put-requires c = omega (arith, digits-few c.in-Some.n)

pub returns-in-Some : goal.returns-in-Some
unfolding quantity_text
returns-in-Some c = rw c.in-Some.is (record { next = c.put.ensures.next; held = c.put.ensures.held })

pub returns-in-None : goal.returns-in-None
unfolding quantity_text
returns-in-None c = rw c.in-None.is (record { next = c.put-in-None.ensures.next; held = c.put-in-None.ensures.held })
