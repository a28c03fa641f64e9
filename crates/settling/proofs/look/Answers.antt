-- `settling::look` meets its contract: a well-formed meter's pulse can be counted. Assumes nothing.
use Rattle.std.proofs.Common.{sym, ◌∙◌}
use Rattle.settling.proofs.Laws.{countable}
use Rattle.settling.proofs.look.Goals as goal

pub settle-requires : goal.settle-requires
settle-requires c = λ on. countable c.args.m.now (sym c.is_formed-formed.ensures ∙ on)
