-- `blocks::look` meets its contract: the flag and the sum, each with what is left, say it of the whole. Assumes nothing.
use mathlib.Core.Path.{◌≡◌, refl, ap₂, ◌∙◌}
use mathlib.Core.Bool.{Bool, true, false, not, ◌&&◌}
use Prim.Native.Nat.{ℕ, max}
use native.Mathlib.Omega.{arith}
use borrow.Author.Tests.{le-leb, lt-leb, leb-true, leb-false}
use lib.Dec.{leb, eqb}
use lib.ListN.{get_or}
use Rattle.line.proofs.Runs.{every-turn, every-end}
use Rattle.line.proofs.Xor.{bcc-start, bcc-turn, bcc-end}
use Rattle.blocks.specs.Parts.{is_content}
use Rattle.blocks.proofs.look.Goals as goal

-- the larger of two is at most m where both are
max-by : (a b m : ℕ) (x y : Bool) → leb a m ≡ x → leb b m ≡ y → leb (max a b) m ≡ (x && y)
max-by a b m true true e k = le-leb (max a b) m (omega (arith, leb-true a m e, leb-true b m k))
max-by a b m true false e k = lt-leb (max a b) m (omega (arith, leb-false b m k))
max-by a b m false y e k = lt-leb (max a b) m (omega (arith, leb-false a m e))

max-leb : (a b m : ℕ) → leb (max a b) m ≡ (leb a m && leb b m)
max-leb a b m = max-by a b m (leb a m) (leb b m) refl refl

and-across : (p x q y : Bool) → ((p && x) && (q && y)) ≡ ((p && q) && (x && y))
and-across true true q y = refl
and-across true false true y = refl
and-across true false false y = refl
and-across false x q y = refl

pub loop-c-init : goal.loop-c-init
loop-c-init c = (omega arith, refl, bcc-start _)

pub loop-c-preserved : goal.loop-c-preserved
unfolding is_content
loop-c-preserved c =
    let s = c.args.s.now in
    let i = c.loop-c.c-index in
    let most = c.loop-c.most in
    let clear = c.loop-c.clear in
    let h = c.loop-c-test.true in (
      omega arith,
      rw (c.max-most.ensures, max-leb most (get_or s i 0) 127, and-across (leb most 127) (leb (get_or s i 0) 127) clear (not (eqb (get_or s i 0) 3))) (every-turn is_content s i (leb most 127 && clear) _ h c.loop-c.invariant.1),
      bcc-turn s i c.loop-c.sum _ h c.loop-c.invariant.2,
    )

pub returns : goal.returns
returns c =
    let s = c.args.s.now in
    let at-loop = c.loop-c in
    let left = c.loop-c-test.false in
    ap₂ (λ (plain : Bool) (sum : ℕ). record { plain = plain; sum = sum })
    (every-end is_content s at-loop.c-index (leb at-loop.most 127 && at-loop.clear) _ left at-loop.invariant.1)
    (c.character.ensures ∙ bcc-end s at-loop.c-index at-loop.sum _ left at-loop.invariant.2)
