-- `numerals::width` meets its contract: the digits counted, with those of what is left, are all. Assumes nothing.
use mathlib.Core.Path.{◌≡◌, refl, ap, ◌∙◌}
use Prim.Native.Nat.{ℕ, ◌+◌, ◌-◌, ◌/◌}
use native.Mathlib.Omega.{arith}
use Rattle.numerals.specs.Numerals.{width_within, width_of}
use Rattle.numerals.proofs.Widths.{width-more, width_one, width-none}
use Rattle.numerals.proofs.width.Goals as goal

pub loop-w-init : goal.loop-w-init
unfolding width_of
loop-w-init c = refl

pub returns-then-left-lt10 : goal.returns-then-left-lt10
returns-then-left-lt10 c =
    let L = c.loop-w in
    omega (arith, width_one (20 - L.w) L.left c.if-left-lt10.true)

pub loop-w-preserved : goal.loop-w-preserved
loop-w-preserved c =
    let L = c.loop-w in
    let more : width_within (20 - L.w) L.left ≡ width_within (20 - L.w - 1) (L.left / 10) + 1 = width-more (20 - L.w) L.left (omega arith) (omega arith) in
    let same : width_within (20 - L.w - 1) (L.left / 10) ≡ width_within (20 - (L.w + 1)) (L.left / 10) = ap (λ (k : ℕ). width_within k (L.left / 10)) (omega arith) in
    omega (arith, more, same)

pub returns : goal.returns
returns c =
    let L = c.loop-w in
    let none : width_within (20 - L.w) L.left ≡ 1 = ap (λ (k : ℕ). width_within k L.left) (omega arith) ∙ width-none L.left in
    omega (arith, none)
