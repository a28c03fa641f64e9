-- `state::words_held` meets its contract: what is gathered, with what is left, says it of the whole, of both. Assumes nothing.
use Rattle.std.proofs.Common.{◌≡◌, ℕ, ◌+◌, ◌*◌, ◌≤◌, Bool, ◌&&◌, eqb, length, get_or, sym, refl, ap, ◌∙◌, ap₂, arith}
use mathlib.Core.Bool.{and-true}
use Rattle.line.proofs.Runs.{every-end}
use Rattle.text.specs.Classes.{between}
use Rattle.state.specs.Fours.{in_seven}
use Rattle.state.proofs.Fours.{seven-joins, seven-word, none-word, four-turn, behind-start, behind-turn, behind-end}
use Rattle.state.proofs.words_held.Goals as goal

pub loop-word-init : goal.loop-word-init
unfolding in_seven
loop-word-init c = (c.requires.0, refl, behind-start c.args.count c.args.held.now)

pub loop-word-preserved : goal.loop-word-preserved
loop-word-preserved c =
    let s = c.args.held.now in
    let w = c.loop-word.word in
    let i = w * 4 in
    let next : (w + 1) * 4 ≡ i + 4 = omega arith in
    let byte = c.type_inv.held in
    let fits : i + 4 ≤ length s = omega (arith, c.loop-word-test.true, c.loop-word.invariant.0) in
    let four = c.four-four.ensures in
    let seven =
    ap in_seven four
    ∙ seven-word (get_or s i 0) (get_or s (i + 1) 0) (get_or s (i + 2) 0) (get_or s (i + 3) 0)
    (omega (arith, byte i)) (omega (arith, byte (i + 1))) (omega (arith, byte (i + 2))) (omega (arith, byte (i + 3))) in
    let none = ap (λ (n : ℕ). eqb n 0) four ∙ none-word (get_or s i 0) (get_or s (i + 1) 0) (get_or s (i + 2) 0) (get_or s (i + 3) 0) in (
      c.loop-word.invariant.0,
      rw next (four-turn (between 0 127) s in_seven seven-joins i c.loop-word.all c.four-four.result _ fits seven c.loop-word.invariant.1),
      rw (c.four_if-behind.ensures, next) (behind-turn c.args.count s i c.loop-word.behind c.four-four.result _ (omega arith) fits none c.loop-word.invariant.2),
    )

pub returns : goal.returns
returns c =
    let s = c.args.held.now in
    let i = c.loop-word.word * 4 in
    let over : length s ≤ i = omega (arith, c.loop-word.invariant.0, c.loop-word-test.false) in
    let none = eqb c.loop-word.behind 0 in
    rw c.is_seven.ensures
    (ap₂ (λ (x y : Bool). x && y)
    (every-end (between 0 127) s i (in_seven c.loop-word.all) _ over c.loop-word.invariant.1)
    (sym (and-true none) ∙ ap (λ (t : Bool). none && t) (sym (behind-end c.args.count s i over (omega (arith, c.loop-word.invariant.0, c.requires)))) ∙ c.loop-word.invariant.2))
