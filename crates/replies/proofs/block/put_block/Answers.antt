-- `replies::block::put_block` meets its contract: the lines, and the end of them. Assumes nothing.
use mathlib.Core.List.{[], ◌∷◌}
use native.Mathlib.Omega.{arith}
use lib.ListN.{length-append}
use Rattle.datasets.specs.Sets.{lines_of}
use Rattle.replies.specs.Plain.{without_archive}
use Rattle.replies.specs.Block.{block_sets, block_data}
use Rattle.replies.proofs.Sizes.{sets-most, ended}
use borrow.Author.Rules.{rules}
use Rattle.replies.proofs.block.put_block.Goals as goal

pub put-requires : goal.put-requires
put-requires c =
    let a = c.args in
    let g = without_archive a.p a.rows.now in
    omega (arith, c.requires.1, c.put_sets-a.ensures.next, sets-most a.tables g (search rules) (search rules))

pub returns : goal.returns
unfolding block_data
returns c =
    let a = c.args in
    let g = without_archive a.p a.rows.now in
    let lines = c.put_sets-a.ensures in
    let end = c.put.ensures in
    record { next = omega (arith, lines.next, end.next, length-append (lines_of (block_sets a.tables g)) (33 ∷ 13 ∷ 10 ∷ [])); held = ended (block_sets a.tables g) a.buf.now a.at _ _ _ (record { next = lines.next; held = lines.held }) end.held }
