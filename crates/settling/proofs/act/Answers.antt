-- `settling::act` meets its contract: each call is asked what it finds, and what they leave is what the deed says. Assumes nothing.
use Rattle.std.proofs.Common.{length}
use Rattle.meter.specs.Life.{event_of}
use Rattle.settling.proofs.Acting.{deed-asks, short-asks, short-said, start-asks, periods-ask, end-asks, long-said}
use Rattle.settling.proofs.act.Goals as goal

pub deed_of-d-requires : goal.deed_of-d-requires
deed_of-d-requires c = deed-asks c.args.m.now (length c.args.reply.now) (event_of c.args.kind c.args.value) c.requires

pub start_long-at-requires : goal.start_long-at-requires
start_long-at-requires c =
    start-asks c.args.m.now (event_of c.args.kind c.args.value) c.args.reply.now c.requires c.deed_of-d.result c.deed_of-d.ensures
    c.if-d.true

pub lent_periods-end-requires : goal.lent_periods-end-requires
lent_periods-end-requires c =
    periods-ask c.args.m.now (event_of c.args.kind c.args.value) c.args.reply.now c.requires c.deed_of-d.result c.deed_of-d.ensures
    c.if-d.true _ _ c.start_long-at.ensures.next c.start_long-at.ensures.held

pub end_long-requires : goal.end_long-requires
end_long-requires c =
    end-asks c.args.m.now (event_of c.args.kind c.args.value) c.args.reply.now c.requires c.deed_of-d.result c.deed_of-d.ensures
    c.if-d.true _ _ c.start_long-at.ensures.next c.start_long-at.ensures.held _ _
    c.lent_periods-end.ensures.0 c.lent_periods-end.ensures.1

pub returns-then-d : goal.returns-then-d
returns-then-d c =
    long-said c.args.m.now (event_of c.args.kind c.args.value) c.args.reply.now c.requires c.deed_of-d.result c.deed_of-d.ensures
    c.if-d.true _ _ c.start_long-at.ensures.next c.start_long-at.ensures.held _ _
    c.lent_periods-end.ensures.0 c.lent_periods-end.ensures.1 _ _ c.end_long.ensures.result c.end_long.ensures.held

pub act_short-requires : goal.act_short-requires
act_short-requires c =
    short-asks c.args.m.now (length c.args.reply.now) (event_of c.args.kind c.args.value) c.requires c.deed_of-d.result
    c.deed_of-d.ensures c.if-d.false

pub returns : goal.returns
returns c =
    short-said c.args.m.now (event_of c.args.kind c.args.value) c.args.reply.now _ c.deed_of-d.result _ c.deed_of-d.ensures
    c.if-d.false c.act_short.ensures.result c.act_short.ensures.held
