-- `whole::to_characters` meets its contract. The invariant: the bytes passed are characters, the others are as they were. Assumes nothing.
use Rattle.std.proofs.Common.{◌≡◌, ◌<◌, length, set, ap, ◌∙◌}
use Rattle.meter.specs.Character.{symbol}
use Rattle.line.proofs.Runs.{changed, changed-none, changed-more, changed-next, changed-all}
use Rattle.whole.proofs.to_characters.Goals as goal

pub loop-b-init : goal.loop-b-init
loop-b-init c = changed-none symbol _

pub loop-b-preserved : goal.loop-b-preserved
loop-b-preserved c =
    let s₀ = c.args.s.now in
    let i = c.loop-b.b-index in
    let h : i < length s₀ = c.loop-b-test.true in
    let e : c.loop-b.s ≡ changed symbol i s₀ = c.loop-b.invariant in
    ap (set c.loop-b.s i) c.symbol_of.ensures ∙ (rw (e, changed-next symbol i s₀ h) (changed-more symbol i s₀ h))

pub returns : goal.returns
returns c = c.loop-b.invariant ∙ changed-all symbol c.loop-b.b-index c.args.s.now c.loop-b-test.false
