-- `commands::read_zone_out` meets its contract: the letter is G. Assumes nothing.
use Rattle.frames.specs.Commands.{ask_export}
use Rattle.commands.proofs.read_zone_out.Goals as goal

pub returns : goal.returns
unfolding ask_export
returns c = c.ask_zone.ensures
