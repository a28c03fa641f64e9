-- `replies::long_start` meets its contract: STX, and the sets behind it. Assumes nothing.
use mathlib.Core.List.{[], ◌∷◌}
use native.Mathlib.Omega.{arith}
use Rattle.text.proofs.Writing.{and_then}
use Rattle.datasets.specs.Sets.{lines_of}
use Rattle.replies.specs.Plain.{without_archive}
use Rattle.replies.specs.Block.{block_sets}
use Rattle.replies.specs.Periods.{long_start}
use Rattle.replies.proofs.long_start.Goals as goal

pub returns : goal.returns
unfolding long_start
returns c =
    let a = c.args in
    let first = c.put-start.ensures in
    let sets = c.put_sets.ensures in
    let lines = lines_of (block_sets a.tables (without_archive a.p a.rows.now)) in
    record { next = omega (arith, first.next, sets.next); held = and_then a.buf.now 0 (2 ∷ []) _ _ lines _ first.held first.next sets.held }
