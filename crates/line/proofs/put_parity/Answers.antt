-- `line::put_parity` meets its contract. The invariant: the bytes passed carry parity, the others are as they were.
-- Assumes nothing.
use mathlib.Core.Path.{◌≡◌, ap, ◌∙◌}
use Prim.Native.Nat.{◌<◌, ◌≤◌}
use native.Mathlib.Omega.{arith}
use lib.ListN.{length, set}
use Rattle.line.specs.Characters.{sent}
use Rattle.line.proofs.Runs.{changed, changed-none, changed-more, changed-next, changed-all}
use Rattle.line.proofs.put_parity.Goals as goal

pub loop-b-init : goal.loop-b-init
loop-b-init c = changed-none sent _

pub loop-b-preserved : goal.loop-b-preserved
loop-b-preserved c =
    let s₀ = c.args.s.now in
    let i = c.loop-b.b-index in
    let h : i < length s₀ = omega arith in
    let e : c.loop-b.b-items ≡ changed sent i s₀ = c.loop-b.invariant in
    ap (set c.loop-b.b-items i) c.wire.ensures ∙ (rw (e, changed-next sent i s₀ h) (changed-more sent i s₀ h))

pub returns : goal.returns
returns c =
    let s₀ = c.args.s.now in
    let h : length s₀ ≤ c.loop-b.b-index = omega arith in
    c.loop-b.invariant ∙ changed-all sent c.loop-b.b-index s₀ h
