-- `commands::write_clock` meets its contract: a real clock in the brackets of W1. Assumes nothing.
use Rattle.frames.specs.Commands.{set_clock, bracketed}
use Rattle.frames.specs.Frames.{frame_of, sealed}
use Rattle.commands.proofs.Making.{judged}
use Rattle.commands.proofs.write_clock.Goals as goal

pub returns : goal.returns
unfolding frame_of sealed set_clock bracketed
returns c = rw (← c.shown_clock.ensures) (judged _ _ _ _ _ _ c.is_clock-good.ensures c.build.ensures)
