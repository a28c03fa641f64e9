-- `values::writing::put_wired` meets its contract: the serial, parted by its character. Assumes nothing.
use Rattle.values.specs.Texts.{wired_text}
use Rattle.values.proofs.writing.put_wired.Goals as goal

pub returns : goal.returns
unfolding wired_text
returns c = record { next = c.put_parted.ensures.next; held = c.put_parted.ensures.held }
