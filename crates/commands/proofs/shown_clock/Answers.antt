-- `commands::shown_clock` meets its contract: the text fills the array. Assumes nothing.
use mathlib.Core.Path.{◌∙◌}
use Rattle.values.proofs.Rules.{clock-text-long}
use Rattle.text.proofs.Writing.{filled}
use Rattle.commands.proofs.shown_clock.Goals as goal

pub returns : goal.returns
returns c =
    c.put_clock.ensures.held ∙ filled _ _ (clock-text-long c.args.c)
