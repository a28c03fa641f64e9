-- `blocks::look` meets its contract: the flag and the sum, each with what is left, say it of the whole. Assumes nothing.
use mathlib.Core.Path.{◌≡◌}
use mathlib.Core.Bool.{◌&&◌}
use Prim.Native.Nat.{◌≤◌}
use lib.Bits.{bit_xor}
use lib.Dec.{leb}
use lib.ListN.{length, drop}
use Rattle.line.specs.Characters.{seven}
use Rattle.line.specs.Checksum.{bcc_of}
use Rattle.line.specs.Runs.{every}
use Rattle.blocks.specs.Parts.{is_content}
use Rattle.blocks.proofs.look.Given as goal

abbrev pub invariant-loop-c : goal.invariant-loop-c
invariant-loop-c l =
    (l.c-index ≤ length l.s) × (((leb l.most 127 && l.clear) && every is_content (drop l.c-index l.s)) ≡ every is_content l.s) × (bit_xor (seven l.sum) (bcc_of (drop l.c-index l.s)) ≡ bcc_of l.s)
