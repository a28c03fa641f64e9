-- `crc::join` meets its contract: the high byte comes down, and the low one leaves what `bare-byte` says. Assumes nothing.
use mathlib.Core.Path.{sym, ap, ◌∙◌}
use Prim.Native.Nat.{◌/◌, ◌%◌}
use native.Mathlib.Nat.{mod-lt, zero-lt-suc}
use native.Mathlib.Omega.{arith}
use lib.Bits.{bit_xor}
use Rattle.crc.specs.Splitting.{BARE}
use Rattle.crc.proofs.Linear.{joined_bytes}
use Rattle.crc.proofs.Split.{bare-byte, spread-lt}
use Rattle.crc.proofs.join.Goals as goal

pub overflow_mul-result-2 : goal.overflow_mul-result-2
overflow_mul-result-2 c = record { fits = spread-lt (bit_xor c.args.c c.args.b % 256) (mod-lt _ (zero-lt-suc 255)) }

pub returns : goal.returns
returns c =
    let low = bit_xor c.args.c c.args.b % 256 in
    sym (joined_bytes BARE c.args.c c.args.b (omega arith) ∙ ap (bit_xor (c.args.c / 256)) (bare-byte low (mod-lt _ (zero-lt-suc 255))))
