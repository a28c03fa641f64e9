-- `meter::after::silence` meets its contract: the deed of silence, done. Assumes nothing.
use mathlib.Core.Path.{sym, ap, ◌∙◌}
use Rattle.text.specs.Writing.{holding}
use Rattle.frames.specs.Frames.{on_wire}
use Rattle.meter.specs.Outcomes.{Outcome, answer_of}
use Rattle.meter.proofs.Done.{silence-done, silence-writable}
use borrow.Author.Rules.{rules}
use Rattle.meter.proofs.after.silence.Goals as goal

pub perform-requires : goal.perform-requires
perform-requires c =
    ((c.requires.0, rw c.of_silence-d.ensures (silence-writable _)), c.requires.1)

pub returns : goal.returns
returns c =
    let a = c.args in
    let all = silence-done a.m in
    let said = rw (c.of_silence-d.ensures, c.standing_in.ensures, c.small_of-s.ensures) at c.perform.ensures in
    record { result = said.result ∙ ap answer_of (sym all); held = said.held ∙ ap (λ (o : Outcome). holding a.reply.now (on_wire o.reply)) (sym all) }
