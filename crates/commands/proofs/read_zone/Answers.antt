-- `commands::read_zone` meets its contract: the letter is E. Assumes nothing.
use Rattle.frames.specs.Commands.{ask_energy}
use Rattle.commands.proofs.read_zone.Goals as goal

pub returns : goal.returns
unfolding ask_energy
returns c = c.ask_zone.ensures
