-- `post::column_fits` meets its contract: one comparison of a difference that wraps stands for both bounds. Assumes nothing.
use Rattle.std.proofs.Common.{◌≡◌, ℕ, ◌+◌, ◌-◌, ◌%◌, ◌<◌, ◌≤◌, leb, List, get_or, drop, arith, get_or-drop}
use Rattle.post.specs.Columns.{column_fits, lowest, highest}
use Rattle.post.proofs.Columns.{bounds-order, bounds-small, fits-wrapped}
use Rattle.post.proofs.column_fits.Goals as goal

back : (x l : ℕ) → x < 256 → l ≤ 256 → ((x + (256 - l)) % 256 + l) % 256 ≡ x
back x l h k = omega arith

wrapped : (text low high : List ℕ) (at j : ℕ) → low ≡ lowest → high ≡ highest → j < 36 → get_or text (at + j) 0 < 256
    → leb ((get_or text (at + j) 0 + (256 - get_or low j 0)) % 256) (get_or high j 0 - get_or low j 0) ≡ column_fits (drop at text) j
unfolding column_fits
wrapped text low high at j l h i k =
    let x = get_or text (at + j) 0 in
    let lo = get_or lowest j 0 in
    rw (l, h, get_or-drop at text j 0)
    (fits-wrapped lo (get_or highest j 0) x ((x + (256 - lo)) % 256) (bounds-order j i) (bounds-small j i) k (omega arith) (back x lo k (omega (arith, bounds-order j i, bounds-small j i))))

pub overflow_sub-result : goal.overflow_sub-result
overflow_sub-result c = let j = c.args.j in
    rw (c.requires.0, c.requires.1) (bounds-order j c.requires.2)

pub returns : goal.returns
returns c = let a = c.args in
    wrapped a.text.now a.low.now a.high.now a.at a.j c.requires.0 c.requires.1 c.requires.2 (omega (arith, c.type_inv.text (a.at + a.j)))
