-- `firmware::meet_in_place` meets its contract: a settled event does no more than is stored of it, and what is left comes of its deed. Assumes nothing.
use Rattle.std.proofs.Common.{◌≡◌, true, List, ℕ, length, sym, refl, ap, ◌∙◌}
use Rattle.text.specs.Writing.{holding}
use Rattle.state.specs.declared.Meter.{Meter}
use Rattle.meter.specs.declared.Event.{Event}
use Rattle.meter.specs.Life.{event_of, met}
use Rattle.meter.specs.Deeds.{done}
use Rattle.settling.specs.Settling.{Heard, settles, settled_in}
use Rattle.settling.specs.Acting.{deed_of}
use Rattle.settling.proofs.Laws.{settled_is, settled-apart, refused-stands, left_is, left-done}
use Rattle.storing.specs.declared.Reply.{Reply}
use Rattle.storing.proofs.Answers.{Answered, answered-as}
use Rattle.firmware.specs.Replies.{settled_reply}
use Rattle.firmware.proofs.meet_in_place.Goals as goal

said_settled : (m : Meter) (event : Event) (ys : List ℕ) (h : Heard) (t : Reply) (m' : Meter) → h ≡ settles m (length ys) event → h.settled ≡ true → t ≡ settled_reply h → m' ≡ settled_in m h → Answered (met m (length ys) event) ys t m' ys
unfolding holding
said_settled m event ys h t m' e es et em =
    let whole = settled_is m (length ys) event (ap (λ (x : Heard). x.settled) (sym e) ∙ es) in
    answered-as _ _ ys ys t m' whole (et ∙ ap settled_reply e, em ∙ ap (settled_in m) e ∙ sym (settled-apart m (length ys) event), refl)

pub returns-in-Ok-Some : goal.returns-in-Ok-Some
returns-in-Ok-Some c =
    said_settled c.args.m.now (event_of c.args.kind c.args.value) c.args.reply.now _ _ _ (rw c.in-Ok-Some.field-0-is at c.in-Ok-Some.ensures.settled) refl c.settle.ensures.0 c.settle.ensures.1

pub act_in_place-requires : goal.act_in_place-requires
act_in_place-requires c =
    let left = left_is c.args.m.now (length c.args.reply.now) (event_of c.args.kind c.args.value) (ap (λ (x : Heard). x.settled) (sym (rw c.in-Ok-None.field-0-is at c.in-Ok-None.ensures.settled))) in
    (left.formed, left.unrefused)

pub returns-in-Ok-None : goal.returns-in-Ok-None
returns-in-Ok-None c =
    let m = c.args.m.now in
    let room = length c.args.reply.now in
    let event = event_of c.args.kind c.args.value in
    let unsettled = ap (λ (x : Heard). x.settled) (sym (rw c.in-Ok-None.field-0-is at c.in-Ok-None.ensures.settled)) in
    answered-as (met m room event) (done m (deed_of m event)) c.args.reply.now _ _ _
    ((left_is m room event unsettled).all ∙ left-done m room event unsettled) c.act_in_place.ensures

pub returns-in-Err : goal.returns-in-Err
returns-in-Err c =
    said_settled c.args.m.now (event_of c.args.kind c.args.value) c.args.reply.now _ _ _ c.in-Err.ensures.settled refl (rw (c.answer.ensures, c.number.ensures)) (refused-stands c.args.m.now _)
