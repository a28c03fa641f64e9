-- `reading::is_address` meets its contract: the test is right at every byte. Assumes nothing.
use native.Mathlib.Omega.{arith}
use Rattle.reading.proofs.Classes.{address-test}
use Rattle.reading.proofs.is_address.Goals as goal

pub returns-then-c : goal.returns-then-c
returns-then-c c =
    rw c.if-c.true at (address-test c.args.c (omega arith))

pub returns : goal.returns
returns c =
    rw c.if-c.false at (address-test c.args.c (omega arith))
