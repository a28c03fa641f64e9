-- `reading::is_value` meets its contract: the test is right at every byte. Assumes nothing.
use native.Mathlib.Omega.{arith}
use Rattle.reading.proofs.Classes.{value-test}
use Rattle.reading.proofs.is_value.Goals as goal

pub returns-then-c : goal.returns-then-c
returns-then-c c =
    rw c.if-c.true at (value-test c.args.c (omega arith))

pub returns : goal.returns
returns c =
    rw c.if-c.false at (value-test c.args.c (omega arith))
