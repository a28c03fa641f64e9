-- `gateway::frame_in_place` meets its contract: what is refused leaves all as it was, and else the last byte is acted on by a record whose receiver is filled. Assumes nothing.
use Rattle.std.proofs.Common.{◌≡◌, ◌<◌, ℕ, Bool, List, length, refl, ap, ◌∙◌, arith}
use Rattle.text.specs.Writing.{holding}
use Rattle.state.specs.declared.Meter.{Meter}
use Rattle.state.specs.WellFormed.{well_formed}
use Rattle.meter.specs.Life.{event_of}
use Rattle.meter.specs.Deeds.{done}
use Rattle.settling.specs.Acting.{deed_of}
use Rattle.whole.specs.Whole.{frame_at}
use Rattle.whole.specs.Looking.{Looked, looked_by, looked, finishes, filled_with}
use Rattle.whole.proofs.Looking.{finished_as, refused_as, finished-fits, finished-done}
use Rattle.storing.proofs.Answers.{answered-as}
use Rattle.gateway.proofs.frame_in_place.Goals as goal

-- a look at the slice, with what was found of the record
look_is : (m : Meter) (room : ℕ) (bytes : List ℕ) (c : Bool) (r : Looked) → c ≡ well_formed m
    → r ≡ looked_by m.mode m.speed m.receiver.count m.registers.facts.edition c bytes room → r ≡ looked m room bytes
look_is m room bytes c r e er = er ∙ ap (λ (b : Bool). looked_by m.mode m.speed m.receiver.count m.registers.facts.edition b bytes room) e

pub act_in_place-requires : goal.act_in_place-requires
act_in_place-requires c =
    let m = c.args.m.now in
    let room = length c.args.reply.now in
    let bytes = c.args.frame.now in
    let r = finishes c.in-Ok.gathered.receiver c.in-Ok.gathered.last in
    let small : c.in-Ok.gathered.last < 256 = omega arith in
    let e = look_is m room bytes c.is_formed-formed.result r c.is_formed-formed.ensures c.in-Ok.ensures in
    let all = finished_as m room bytes r e refl in
    (all.formed, finished-fits m room bytes r all small)

pub returns-in-Ok : goal.returns-in-Ok
returns-in-Ok c =
    let m = c.args.m.now in
    let room = length c.args.reply.now in
    let bytes = c.args.frame.now in
    let r = finishes c.in-Ok.gathered.receiver c.in-Ok.gathered.last in
    let small : c.in-Ok.gathered.last < 256 = omega arith in
    let e = look_is m room bytes c.is_formed-formed.result r c.is_formed-formed.ensures c.in-Ok.ensures in
    let all = finished_as m room bytes r e refl in
    answered-as (frame_at m room bytes) (done (filled_with m r) (deed_of (filled_with m r) (event_of 0 r.last))) c.args.reply.now
    _ _ _ (finished-done m room bytes r all small) c.act_in_place.ensures

pub returns-in-Err : goal.returns-in-Err
unfolding holding
returns-in-Err c =
    let m = c.args.m.now in
    let room = length c.args.reply.now in
    let bytes = c.args.frame.now in
    let e = look_is m room bytes c.is_formed-formed.result _ c.is_formed-formed.ensures c.in-Err.ensures in
    rw (refused_as m room bytes c.in-Err.refusal e) (c.refused.ensures, refl, refl)
