-- `replies::data_block` meets its contract: STX, the data, and then closed. Assumes nothing.
use mathlib.Core.List.{[], ◌∷◌}
use native.Mathlib.Omega.{arith}
use Rattle.text.proofs.Writing.{length-stored}
use Rattle.frames.proofs.Sealing.{blocking, block-length}
use Rattle.replies.specs.Block.{block_data}
use Rattle.replies.specs.Plain.{without_archive}
use Rattle.replies.proofs.Sizes.{content-most}
use borrow.Author.Rules.{rules}
use Rattle.replies.proofs.data_block.Goals as goal

pub seal-requires : goal.seal-requires
seal-requires c =
    let a = c.args in
    let g = without_archive a.p a.rows.now in
    let first = c.put-start.ensures in
    let shown = c.put_block-end.ensures in
    let long = content-most a.tables g (search rules) (search rules) in
    (omega (arith, first.next, shown.next), rw (shown.held, length-stored c.put-start.new.buf c.put-start.result (block_data a.tables g), first.held, length-stored a.buf.now 0 (2 ∷ [])) (omega (arith, first.next, shown.next, long, c.requires.0, c.requires.1)))

pub returns : goal.returns
returns c =
    let a = c.args in
    let g = without_archive a.p a.rows.now in
    let first = c.put-start.ensures in
    let shown = c.put_block-end.ensures in
    let shut = c.seal.ensures in
    let long = content-most a.tables g (search rules) (search rules) in
    record { whole = omega (arith, first.next, shown.next, shut.whole, block-length (block_data a.tables g)); held = blocking a.buf.now (block_data a.tables g) _ _ _ _ _ (omega (arith, long, c.requires.0, c.requires.1)) first.next first.held shown.next shown.held shut.held }
