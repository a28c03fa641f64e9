-- `crc::even` meets its contract, either way. Assumes nothing.
use mathlib.Core.Path.{◌≡◌, sym, ◌∙◌}
use Prim.Native.Nat.{◌/◌, ◌%◌}
use native.Mathlib.Omega.{arith}
use Rattle.crc.specs.Splitting.{evened}
use Rattle.crc.proofs.even.Goals as goal

pub returns-then-damaged : goal.returns-then-damaged
unfolding evened
returns-then-damaged c =
    let high : c.args.c / 256 % 256 ≡ c.args.c / 256 = omega arith in
    let test = rw (c.to_le_bytes.ensures, high) at (sym c.damaged.ensures ∙ c.if-damaged.true) in
    rw test

pub returns : goal.returns
unfolding evened
returns c =
    let high : c.args.c / 256 % 256 ≡ c.args.c / 256 = omega arith in
    let test = rw (c.to_le_bytes.ensures, high) at (sym c.damaged.ensures ∙ c.if-damaged.false) in
    rw test
