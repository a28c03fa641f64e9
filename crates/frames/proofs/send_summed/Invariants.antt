-- `frames::send_summed` meets its contract. The invariant: the bytes passed carry parity, the others are as they were, and the sum so far, with the BCC
-- of what is left, is the BCC of all but the first. Assumes nothing.
use mathlib.Core.Path.{◌≡◌}
use lib.Bits.{bit_xor}
use lib.ListN.{drop}
use Rattle.line.specs.Characters.{seven, sent}
use Rattle.line.specs.Checksum.{bcc_of}
use Rattle.line.proofs.Runs.{changed}
use Rattle.frames.proofs.send_summed.Given as goal

abbrev pub invariant-loop-c : goal.invariant-loop-c
invariant-loop-c l =
    (l.c-items ≡ changed sent l.c-index l.initial.c-items) × (bit_xor (seven l.sum) (bcc_of (drop l.c-index l.initial.c-items)) ≡ bcc_of (drop 1 l.initial.c-items))
