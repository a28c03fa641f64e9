-- `crc::crc` meets its contract. The invariant: what is left, from the register and the sum on, comes to what the whole does. Assumes nothing.
use mathlib.Core.Path.{◌≡◌}
use lib.Bits.{bit_xor}
use lib.ListN.{drop}
use Rattle.crc.specs.Crc.{crc_from}
use Rattle.crc.specs.Splitting.{BARE}
use Rattle.crc.proofs.Counting.{sum_of}
use Rattle.crc.proofs.crc.Given as goal

abbrev pub invariant-loop-b : goal.invariant-loop-b
invariant-loop-b l =
    (crc_from BARE l.c (drop l.b-index l.s) ≡ crc_from BARE 0xFFFF l.s) × (bit_xor l.sum (sum_of (drop l.b-index l.s)) ≡ sum_of l.s)
