-- `post::rest_place` meets its contract: the place is the last line's or the next line's. Assumes nothing.
use Rattle.std.proofs.Common.{sym, ◌∙◌}
use Rattle.post.proofs.Places.{no_line, longest-line, longest-last}
use Rattle.post.proofs.Last.{begins-above, begins-first, begins-one, not-begun}
use Rattle.post.proofs.rest_place.Goals as goal

pub last_place-requires : goal.last_place-requires
last_place-requires c = begins-one c.args.above c.args.s.now (sym c.begins_last.ensures ∙ c.if-begins_last.true)

pub returns-then-begins_last : goal.returns-then-begins_last
returns-then-begins_last c =
    let a = c.args in
    let b = sym c.begins_last.ensures ∙ c.if-begins_last.true in
    longest-last a.tables a.above a.s.now c.last_place.result (begins-above a.above a.s.now b) (begins-first a.above a.s.now b) c.last_place.ensures

pub line_place-requires : goal.line_place-requires
line_place-requires c = c.requires.4

pub returns : goal.returns
returns c =
    let a = c.args in
    let pre = c.requires in
    let p = c.line_place.ensures in
    longest-line a.tables a.above a.s.now pre.1 c.line_place.result p (no_line a.tables a.above a.s.now c.line_place.result p pre.3)
    (not-begun a.above a.s.now (sym c.begins_last.ensures ∙ c.if-begins_last.false)) pre.0 pre.2
