-- `meter::deeds::of_character` meets its contract: each way out is the case of the definition that its tests name. Assumes nothing.
use Rattle.meter.specs.Deeds.{character_deed}
use borrow.Author.Rules.{rules}
use Rattle.meter.proofs.deeds.of_character.Goals as goal

pub returns : goal.returns
unfolding character_deed
returns c =
    rw (← c.damaged-damaged.ensures, ← c.symbol_of-c.ensures, ← c.last_in.ensures, ← c.hear-h.ensures, c.of_hearing.ensures)
