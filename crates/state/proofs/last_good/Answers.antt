-- `state::last_good` meets its contract: what is gathered, with what is left, says it of the whole, of both kinds. Assumes nothing.
use Rattle.std.proofs.Common.{◌≡◌, ℕ, ◌+◌, ◌*◌, ◌≤◌, eqb, length, get_or, refl, ap, ◌∙◌, arith}
use Rattle.line.proofs.Runs.{every-end}
use Rattle.text.specs.Classes.{between}
use Rattle.state.specs.Fours.{in_row, last_good}
use Rattle.state.proofs.Fours.{none-of-both, row-joins, row_word, none-word, four-turn}
use Rattle.state.proofs.last_good.Goals as goal

pub loop-word-init : goal.loop-word-init
unfolding in_row
loop-word-init c = (c.requires, refl, refl)

pub loop-word-preserved : goal.loop-word-preserved
loop-word-preserved c =
    let s = c.args.s.now in
    let w = c.loop-word.word in
    let i = w * 4 in
    let next : (w + 1) * 4 ≡ i + 4 = omega arith in
    let byte = c.type_inv.s in
    let fits : i + 4 ≤ length s = omega (arith, c.loop-word-test.true, c.loop-word.invariant.0) in
    let four = c.four-four.ensures in
    let row =
    row_word c.above_one-bad.result (get_or s i 0) (get_or s (i + 1) 0) (get_or s (i + 2) 0) (get_or s (i + 3) 0) (omega (arith, c.above_one-bad.type_inv))
    (omega (arith, byte i)) (omega (arith, byte (i + 1))) (omega (arith, byte (i + 2))) (omega (arith, byte (i + 3))) (c.above_one-bad.ensures ∙ four) in
    let none = ap (λ (n : ℕ). eqb n 0) four ∙ none-word (get_or s i 0) (get_or s (i + 1) 0) (get_or s (i + 2) 0) (get_or s (i + 3) 0) in (
      c.loop-word.invariant.0,
      rw next (four-turn (between 49 52) s in_row row-joins i c.loop-word.bad c.above_one-bad.result _ fits row c.loop-word.invariant.1),
      rw next (four-turn (between 0 0) s (λ (n : ℕ). eqb n 0) none-of-both i c.loop-word.bits c.four-four.result _ fits none c.loop-word.invariant.2),
    )

pub returns-then-used : goal.returns-then-used
unfolding last_good
returns-then-used c =
    rw (c.is_in_row.ensures, c.if-used.true)
    (every-end (between 49 52) c.args.s.now (c.loop-word.word * 4) (in_row c.loop-word.bad) _ (omega (arith, c.loop-word.invariant.0, c.loop-word-test.false)) c.loop-word.invariant.1)

pub returns : goal.returns
unfolding last_good
returns c =
    rw c.if-used.false (every-end (between 0 0) c.args.s.now (c.loop-word.word * 4) (eqb c.loop-word.bits 0) _ (omega (arith, c.loop-word.invariant.0, c.loop-word-test.false)) c.loop-word.invariant.2)
