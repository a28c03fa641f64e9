-- `meter::act_on` meets its contract: the deed of what was heard, done. Assumes nothing.
use mathlib.Core.Path.{◌≡◌, sym, ap, ◌∙◌}
use Rattle.text.specs.Writing.{holding}
use Rattle.frames.specs.Frames.{on_wire}
use Rattle.state.proofs.Parts.{formed, long}
use Rattle.meter.specs.Outcomes.{Outcome, answer_of}
use Rattle.meter.proofs.Done.{heard-done, heard-writable}
use Rattle.meter.specs.Deeds.{standing_of}
use borrow.Author.Rules.{rules}
use Rattle.meter.proofs.act_on.Goals as goal

pub of_hearing-d-requires : goal.of_hearing-d-requires
of_hearing-d-requires c =
    let m = c.args.m in
    let whole = long m c.requires.0.0 in
    rw (c.standing_in.ensures, c.small_of-s.ensures) (((formed m c.requires.0.0).attempts, (whole.serial, whole.password)))

pub perform-requires : goal.perform-requires
perform-requires c =
    let a = c.args in
    ((c.requires.0.0, rw c.of_hearing-d.ensures (heard-writable _ _ a.h a.c a.damaged)), c.requires.0.1)

pub returns : goal.returns
returns c =
    let a = c.args in
    let all = heard-done a.m a.c a.damaged a.h c.requires.1 in
    let said = rw (c.of_hearing-d.ensures, c.standing_in.ensures, c.small_of-s.ensures) at c.perform.ensures in
    record { result = said.result ∙ ap answer_of (sym all); held = said.held ∙ ap (λ (o : Outcome). holding a.reply.now (on_wire o.reply)) (sym all) }
