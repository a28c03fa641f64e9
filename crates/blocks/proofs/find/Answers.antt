-- `blocks::find` meets its contract: too few characters, no block, a wrong BCC, or the part. Assumes nothing.
use mathlib.Core.Bool.{true}
use mathlib.Core.Path.{◌≡◌, ap, ◌∙◌}
use Prim.Native.Nat.{ℕ, ◌-◌}
use native.Mathlib.Omega.{arith}
use borrow.Author.Tests.{eq-eqb, ne_eqb}
use lib.ListN.{length, take, drop, length-take, length-drop}
use Rattle.blocks.proofs.Shape.{too_few, no_block, wrong-bcc, has_part, block-seen, bcc-seen}
use Rattle.blocks.specs.Parts.{PartAt, is_block}
use Rattle.blocks.proofs.find.Goals as goal

pub returns-then-s-lt3-clause-within : goal.returns-then-s-lt3-clause-within
returns-then-s-lt3-clause-within c =
    too_few _ c.if-s-lt3.true

pub returns-then-not-block-clause-within : goal.returns-then-not-block-clause-within
returns-then-not-block-clause-within c = no_block _ (block-seen c.args.s.now c.if-s-lt3.false c.look-seen.result c.look-seen.ensures ∙ c.if-not-block.true)

pub returns-then-s-last-clause-within : goal.returns-then-s-last-clause-within
returns-then-s-last-clause-within c =
    let s = c.args.s.now in let block : is_block s ≡ true = block-seen s c.if-s-lt3.false c.look-seen.result c.look-seen.ensures ∙ c.if-not-block.false in wrong-bcc s block (bcc-seen s c.if-s-lt3.false c.look-seen.result c.look-seen.ensures block ∙ ne_eqb _ _ c.if-s-last.true)

pub returns-clause-within : goal.returns-clause-within
returns-clause-within c =
    let s = c.args.s.now in
    let block : is_block s ≡ true = block-seen s c.if-s-lt3.false c.look-seen.result c.look-seen.ensures ∙ c.if-not-block.false in
    let long : length (take (length s - 2 - 1) (drop 1 s)) ≡ length s - 3 = omega (arith, length-take (length s - 2 - 1) (drop 1 s), length-drop 1 s) in
    rw long (has_part s c.if-s-lt3.false block (bcc-seen s c.if-s-lt3.false c.look-seen.result c.look-seen.ensures block ∙ eq-eqb _ _ c.if-s-last.false))

pub returns-clause-value : goal.returns-clause-value
returns-clause-value c =
    let s = c.args.s.now in
    let block : is_block s ≡ true = block-seen s c.if-s-lt3.false c.look-seen.result c.look-seen.ensures ∙ c.if-not-block.false in
    let found = has_part s c.if-s-lt3.false block (bcc-seen s c.if-s-lt3.false c.look-seen.result c.look-seen.ensures block ∙ eq-eqb _ _ c.if-s-last.false) in
    ap (λ (n : ℕ). take n (drop 1 s)) {x = length s - 2 - 1} {y = length s - 3} (omega arith) ∙ ap (λ (q : PartAt). take q.length (drop q.start s)) found.is
