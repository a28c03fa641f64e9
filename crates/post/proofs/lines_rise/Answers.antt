-- `post::lines_rise` meets its contract: what is known of the lines gone through is kept in the flags. Assumes nothing.
use Rattle.std.proofs.Common.{◌≡◌, ℕ, ◌+◌, ◌*◌, List, get_or, refl, ap, arith}
use Rattle.line.proofs.Runs.{and_left, and_right}
use Rattle.post.specs.Columns.{lowest, highest, raw_at}
use Rattle.post.proofs.Rise.{rose-none, rose-more, rose-end}
use Rattle.post.proofs.lines_rise.Goals as goal

raw-is : (text : List ℕ) (l raw : ℕ) → raw ≡ get_or text (36 * l + 6) 0 * 10 + get_or text (36 * l + 7) 0 → raw ≡ raw_at text l
unfolding raw_at
raw-is text l raw e = e

pub overflow_add-top : goal.overflow_add-top
overflow_add-top c = omega (arith, c.from-top.ensures)

pub loop-l-init : goal.loop-l-init
unfolding lowest highest
loop-l-init c = (refl, refl, refl, refl, ap (λ (x : ℕ). 528 + x) c.from-top.ensures, omega arith, rose-none _ _ _ refl)

pub take_line-requires : goal.take_line-requires
take_line-requires c =
    let l = c.loop-l in
    (l.invariant.0, l.invariant.1, l.invariant.2, l.invariant.3, omega arith, l.invariant.6.long)

pub loop-l-preserved : goal.loop-l-preserved
loop-l-preserved c = let l = c.loop-l in
    let a = c.args in (
      l.invariant.0,
      l.invariant.1,
      l.invariant.2,
      l.invariant.3,
      l.invariant.4,
      omega arith,
      rose-more a.tables a.text.now l.l l.above _ c.raw_number-raw.result l.rise l.fits _ l.invariant.4 (raw-is a.text.now l.l c.raw_number-raw.result c.raw_number-raw.ensures) c.take_line.ensures l.invariant.6,
    )

pub returns : goal.returns
returns c =
    let l = c.loop-l in
    let a = c.args in
    let e : l.l ≡ a.lines = omega arith in
    λ t k h.
    rose-end a.tables a.text.now l.l l.above l.rise l.fits l.invariant.6 (c.all_set.ensures (and_left c.all_set.result l.rise t))
    (and_right c.all_set.result l.rise t) k (omega arith)
