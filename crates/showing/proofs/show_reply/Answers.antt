-- `showing::show_reply` meets its contract: the number of a refusal, or what the stripped block shows. Assumes nothing.
use mathlib.Core.Path.{refl, sym, ap}
use native.Mathlib.Omega.{arith}
use lib.Seq.{length-take-le}
use Rattle.blocks.specs.Stripping.{Stripped}
use Rattle.blocks.specs.Refusals.{number_of, place_of}
use Rattle.blocks.proofs.Refusals.{not-done}
use Rattle.blocks.proofs.Length.{stripped-fits}
use Rattle.showing.specs.Shown.{wanted_shown, wanted_place}
use Rattle.showing.proofs.Replies.{refusal-shows, reply-refused, reply-shown, reply_unplaced, reply-placed, stripped-is}
use Rattle.showing.proofs.show_reply.Goals as goal

pub slice_bounds-plain-end : goal.slice_bounds-plain-end
slice_bounds-plain-end c = rw (ap (λ (r : Stripped). r.length) c.in-Ok.ensures.answer, c.strip.auto.out) (stripped-fits _ _)

pub slice_bounds-show_block-end : goal.slice_bounds-show_block-end
slice_bounds-show_block-end c =
    sym (length-take-le _ _ (rw (ap (λ (r : Stripped). r.length) c.in-Ok.ensures.answer, c.strip.auto.out) (stripped-fits _ _)))

pub returns-in-Err-clause-shows : goal.returns-in-Err-clause-shows
returns-in-Err-clause-shows c =
    let a = c.args in
    let r = c.in-Err.refusal in
    let said = c.refuse.ensures in
    rw (reply-refused (wanted_shown a.wanted) a.reply.now _ c.in-Err.ensures.answer (not-done r))
    (refusal-shows a.out.now (number_of r) (place_of r) _ _ (omega (arith, c.requires)) said.value said.held)

pub returns-in-Ok-clause-shows : goal.returns-in-Ok-clause-shows
returns-in-Ok-clause-shows c =
    let a = c.args in
    let e = c.in-Ok.ensures in
    let shown = wanted_shown a.wanted in
    rw (reply-shown shown a.reply.now _ e.answer refl, ← stripped-is a.reply.now _ _ _ e.answer e.held refl) c.show_block.ensures.shows

pub returns-in-Err-clause-placed : goal.returns-in-Err-clause-placed
returns-in-Err-clause-placed c =
    let a = c.args in
    rw (reply_unplaced (wanted_place a.wanted) a.reply.now _ c.in-Err.ensures.answer (not-done c.in-Err.refusal), c.refuse.ensures.refused) refl

pub returns-in-Ok-clause-placed : goal.returns-in-Ok-clause-placed
returns-in-Ok-clause-placed c =
    let a = c.args in
    let e = c.in-Ok.ensures in
    rw (reply-placed (wanted_place a.wanted) a.reply.now _ e.answer refl, ← stripped-is a.reply.now _ _ _ e.answer e.held refl) c.show_block.ensures.placed
