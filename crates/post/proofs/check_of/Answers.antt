-- `post::check_of` meets its contract: a post seen whole, or the answer from where the lines end. Assumes nothing.
use Rattle.std.proofs.Common.{sym, ◌∙◌}
use Rattle.post.proofs.Answers.{part-is, answers-post, accepted, refused}
use Rattle.post.proofs.Last.{last-is, not_last}
use Rattle.post.proofs.check_of.Goals as goal

pub returns-then-seen_whole : goal.returns-then-seen_whole
returns-then-seen_whole c = answers-post c.args.tables c.args.text.now (c.seen_whole.ensures c.if-seen_whole.true)

pub returns-then-is_last : goal.returns-then-is_last
returns-then-is_last c = let a = c.args in
    let n = c.scan-lines.result in
    let e = last-is n.above _ (sym c.is_last.ensures ∙ c.if-is_last.true) in
    accepted a.tables n.at n.above n.stray a.text.now c.requires.1 c.scan-lines.ensures e.0 (sym (part-is a.text.now n.at) ∙ e.1)

pub rest_place-place-requires : goal.rest_place-place-requires
rest_place-place-requires c = let a = c.args in
    let n = c.scan-lines.result in (
      c.requires.0,
      c.requires.1,
      c.scan-lines.ensures.passed.in_tables,
      rw (part-is a.text.now n.at) c.scan-lines.ensures.stops,
      rw (part-is a.text.now n.at) c.scan-lines.ensures.strays,
    )

pub returns : goal.returns
returns c = let a = c.args in
    let n = c.scan-lines.result in
    refused a.tables n.at n.above n.stray a.text.now c.requires.1 c.scan-lines.ensures c.rest_place-place.result
    (λ h l. not_last n.above _ (sym c.is_last.ensures ∙ c.if-is_last.false) h (part-is a.text.now n.at ∙ l))
    (rw (part-is a.text.now n.at) at c.rest_place-place.ensures)
