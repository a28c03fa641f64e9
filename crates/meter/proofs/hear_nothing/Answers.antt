-- `meter::hear_nothing` meets its contract: heard, or the number of why not. Assumes nothing.
use Rattle.std.proofs.Common.{◌≡◌, ◌≤◌, ltb, length, None, ap, ◌∙◌, arith, ltb-false}
use Rattle.text.specs.Writing.{holding}
use Rattle.frames.specs.Frames.{on_wire}
use Rattle.state.specs.Sizes.{reply_room}
use Rattle.meter.specs.declared.Unheard.TheVariants.{NoRoom}
use Rattle.meter.specs.Outcomes.{Outcome, answer_of}
use Rattle.meter.specs.Unheard.{number_of, unheard_by, short_of}
use Rattle.meter.specs.Events.{after_silence, silence}
use Rattle.meter.proofs.Heard.{heard, lost, fit}
use Rattle.meter.proofs.hear_nothing.Goals as goal

pub silence-requires : goal.silence-requires
silence-requires c =
    let room = length c.args.reply.now in
    let h : None ≡ unheard_by c.args.m (short_of room) = rw c.short.ensures at c.in-None.ensures in
    let known = fit c.args.m (ltb room reply_room) NoRoom (after_silence c.args.m) h in
    let long : reply_room ≤ room = ltb-false room reply_room known.1 in
    (known.0, long)

pub returns-in-None : goal.returns-in-None
unfolding silence number_of
returns-in-None c =
    let m = c.args.m in
    let room = length c.args.reply.now in
    let h : None ≡ unheard_by m (short_of room) = rw c.short.ensures at c.in-None.ensures in
    let all = heard m (ltb room reply_room) NoRoom (after_silence m) h in
    let said = c.silence.ensures in
    record { result = said.result ∙ ap answer_of all; held = said.held ∙ ap (λ (o : Outcome). holding c.args.reply.now (on_wire o.reply)) all }

pub returns-in-Some : goal.returns-in-Some
unfolding silence number_of holding
returns-in-Some c =
    let m = c.args.m in
    let room = length c.args.reply.now in
    let h = rw c.short.ensures at c.in-Some.ensures in
    let all = lost m (ltb room reply_room) NoRoom (after_silence m) c.in-Some.why h in
    record { result = rw (c.unheard_with.ensures, c.number.ensures) (ap answer_of all); held = ap (λ (o : Outcome). holding c.args.reply.now (on_wire o.reply)) all }
