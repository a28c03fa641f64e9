-- `line::bcc` meets its contract. The invariant: the sum so far, with the BCC of what is left, is the BCC of the whole.
-- The bytes are summed whole and the parity bit dropped once, at the end, which `seven-xor` allows. Assumes nothing.
use mathlib.Core.Path.{◌≡◌}
use lib.ListN.{drop}
use lib.Bits.{bit_xor}
use Rattle.line.specs.Characters.{seven}
use Rattle.line.specs.Checksum.{bcc_of}
use Rattle.line.proofs.bcc.Given as goal

abbrev pub invariant-loop-b : goal.invariant-loop-b
invariant-loop-b l = bit_xor (seven l.sum) (bcc_of (drop l.b-index l.s)) ≡ bcc_of l.s
