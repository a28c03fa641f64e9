-- `crc::crc` meets its contract. The invariant: what is left, from the register and the sum on, comes to what the whole does. Assumes nothing.
use mathlib.Core.Path.{◌≡◌, refl, sym, ap, ap₂, ◌∙◌}
use Prim.Native.Nat.{ℕ, ◌+◌}
use native.Mathlib.Omega.{arith}
use lib.Bits.{xor_zero_r}
use lib.ListN.{drop, get_or, drop_of_length-le}
use Rattle.line.proofs.Runs.{left-next}
use Rattle.line.proofs.Xor.{xor_assoc}
use Rattle.crc.specs.Crc.{crc_from}
use Rattle.crc.specs.Splitting.{BARE, evened}
use Rattle.crc.proofs.Counting.{sum_of}
use Rattle.crc.proofs.Split.{evened-is}
use Rattle.crc.proofs.crc.Goals as goal

pub loop-b-init : goal.loop-b-init
loop-b-init c = (refl, refl)

pub loop-b-preserved : goal.loop-b-preserved
unfolding crc_from sum_of
loop-b-preserved c =
    let s = c.args.s.now in
    let i = c.loop-b.b-index in
    let next = left-next i s (omega arith) in (
      ap (λ (n : ℕ). crc_from BARE n (drop (i + 1) s)) c.join-c.ensures ∙ (rw next at c.loop-b.invariant.0),
      xor_assoc c.loop-b.sum (get_or s i 0) (sum_of (drop (i + 1) s)) ∙ (rw next at c.loop-b.invariant.1),
    )

pub returns : goal.returns
unfolding crc_from sum_of
returns c =
    let s = c.args.s.now in
    let none = drop_of_length-le s {i = c.loop-b.b-index} (omega arith) in
    let register : c.loop-b.c ≡ crc_from BARE 0xFFFF s = rw none at c.loop-b.invariant.0 in
    let sum : c.loop-b.sum ≡ sum_of s = sym (xor_zero_r c.loop-b.sum) ∙ (rw none at c.loop-b.invariant.1) in
    c.even.ensures ∙ ap₂ evened register sum ∙ evened-is s
