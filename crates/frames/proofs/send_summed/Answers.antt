-- `frames::send_summed` meets its contract. The invariant: the bytes passed carry parity, the others are as they were, and the sum so far, with the BCC
-- of what is left, is the BCC of all but the first. Assumes nothing.
use mathlib.Core.Path.{◌≡◌, ap, ◌∙◌}
use mathlib.Core.List.{List}
use Prim.Native.Nat.{ℕ, ◌<◌, ◌≤◌}
use native.Mathlib.Omega.{arith}
use lib.ListN.{length, drop, get_or, set}
use Rattle.line.specs.Characters.{seven, sent}
use Rattle.line.specs.Checksum.{bcc_of}
use Rattle.line.proofs.Runs.{changed, changed-none, changed-more, changed-next, changed-all}
use Rattle.line.proofs.Xor.{bcc-turn, bcc-end}
use Rattle.frames.proofs.Closing.{first_out}
use Rattle.frames.proofs.send_summed.Goals as goal

pub loop-c-init : goal.loop-c-init
loop-c-init c = (changed-none sent _, first_out c.args.s.now c.requires)

pub loop-c-preserved : goal.loop-c-preserved
loop-c-preserved c =
    let s₀ = c.args.s.now in
    let i = c.loop-c.c-index in
    let h : i < length s₀ = omega arith in
    let e : c.loop-c.c-items ≡ changed sent i s₀ = c.loop-c.invariant.0 in
    let same : get_or c.loop-c.c-items i 0 ≡ get_or s₀ i 0 = ap (λ (l : List ℕ). get_or l i 0) e ∙ changed-next sent i s₀ h in (
      ap (set c.loop-c.c-items i) c.wire.ensures ∙ (rw (same, e) (changed-more sent i s₀ h)),
      rw same (bcc-turn s₀ i c.loop-c.sum (bcc_of (drop 1 s₀)) h c.loop-c.invariant.1),
    )

pub returns : goal.returns
unfolding seven
returns c =
    let s₀ = c.args.s.now in
    let turn = c.loop-c in
    let h : length s₀ ≤ turn.c-index = omega arith in
    record { sum = bcc-end s₀ turn.c-index turn.sum (bcc_of (drop 1 s₀)) h turn.invariant.1; held = turn.invariant.0 ∙ changed-all sent turn.c-index s₀ h }
