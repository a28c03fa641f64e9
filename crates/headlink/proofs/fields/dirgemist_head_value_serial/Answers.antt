-- `headlink::fields::dirgemist_head_value_serial` meets its contract: the digits of a text that has the form, or zeros. Assumes nothing.
use mathlib.Core.Path.{sym, ◌∙◌}
use Rattle.headlink.proofs.Telling.{serial-told, serial-untold}
use Rattle.headlink.proofs.fields.dirgemist_head_value_serial.Goals as goal

pub returns-then-is_serial : goal.returns-then-is_serial
returns-then-is_serial c =
    serial-told _ _ _ c.args.value.now _ (sym c.is_serial.ensures ∙ c.if-is_serial.true) c.digits_of-serial.ensures c.tell.ensures

pub returns : goal.returns
returns c =
    serial-untold _ _ _ c.args.value.now (sym c.is_serial.ensures ∙ c.if-is_serial.false) c.tell-2.ensures
