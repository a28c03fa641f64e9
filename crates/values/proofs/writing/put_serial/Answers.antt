-- `values::writing::put_serial` meets its contract: the serial, parted by its character. Assumes nothing.
use Rattle.values.specs.Texts.{serial_text}
use Rattle.values.proofs.writing.put_serial.Goals as goal

pub returns : goal.returns
unfolding serial_text
returns c = record { next = c.put_parted.ensures.next; held = c.put_parted.ensures.held }
