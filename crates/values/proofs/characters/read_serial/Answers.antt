-- `values::characters::read_serial` meets its contract: the form decides. Assumes nothing.
use mathlib.Core.Path.{sym, ◌∙◌}
use Rattle.values.specs.Serials.{serial_read}
use Rattle.values.proofs.characters.read_serial.Goals as goal

pub digits_of-requires : goal.digits_of-requires
digits_of-requires c = sym c.is_serial.ensures ∙ c.if-is_serial.true

pub returns-then-is_serial : goal.returns-then-is_serial
unfolding serial_read
returns-then-is_serial c = rw (← c.is_serial.ensures, c.if-is_serial.true, c.digits_of.ensures)

pub returns : goal.returns
unfolding serial_read
returns c = rw (← c.is_serial.ensures, c.if-is_serial.false)
