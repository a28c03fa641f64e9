-- `showing::show_block` meets its contract: the number of a refusal, or what is wanted of the part. Assumes nothing.
use mathlib.Core.Path.{refl, ap}
use native.Mathlib.Omega.{arith}
use Rattle.blocks.specs.Parts.{PartAt}
use Rattle.blocks.specs.Refusals.{number_of, place_of}
use Rattle.blocks.proofs.Refusals.{not-done, placeless}
use Rattle.showing.specs.Shown.{wanted_shown, wanted_place}
use Rattle.showing.proofs.Replies.{refusal-shows, block_refused, block-shown, block_unplaced, block-placed}
use Rattle.showing.proofs.show_block.Goals as goal

pub returns-in-Ok-clause-shows : goal.returns-in-Ok-clause-shows
returns-in-Ok-clause-shows c =
    let a = c.args in
    let found = c.in-Ok.ensures in
    rw (block-shown (wanted_shown a.wanted) a.block.now 1 (ap (λ (p : PartAt). p.number) found.within.is) refl _ found.value) c.show_wanted.ensures.shows

pub returns-in-Err-clause-shows : goal.returns-in-Err-clause-shows
returns-in-Err-clause-shows c =
    let a = c.args in
    let r = c.in-Err.refusal in
    let within = c.in-Err.ensures.within in
    let said = c.refuse.ensures in
    let shows = refusal-shows a.out.now (number_of r) (place_of r) _ _ (omega (arith, c.requires)) said.value said.held in
    rw (block_refused (wanted_shown a.wanted) a.block.now (number_of r) (ap (λ (p : PartAt). p.number) within.is) (not-done r)) (rw (placeless a.block.now r within) at shows)

pub returns-in-Ok-clause-placed : goal.returns-in-Ok-clause-placed
returns-in-Ok-clause-placed c =
    let a = c.args in
    let found = c.in-Ok.ensures in
    rw (block-placed (wanted_place a.wanted) a.block.now 1 (ap (λ (p : PartAt). p.number) found.within.is) refl _ found.value) c.show_wanted.ensures.placed

pub returns-in-Err-clause-placed : goal.returns-in-Err-clause-placed
returns-in-Err-clause-placed c =
    let a = c.args in
    let r = c.in-Err.refusal in
    let within = c.in-Err.ensures.within in
    rw (block_unplaced (wanted_place a.wanted) a.block.now (number_of r) (ap (λ (p : PartAt). p.number) within.is) (not-done r), c.refuse.ensures.refused)
    (placeless a.block.now r within)
