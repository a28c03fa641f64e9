-- `values::characters::is_serial` meets its contract: the length, and the form in the first and the last eight characters. Assumes nothing.
use mathlib.Core.Path.{refl}
use native.Mathlib.Omega.{arith}
use Rattle.line.specs.Runs.{every}
use Rattle.text.specs.Layout.{pattern}
use Rattle.eights.specs.Lanes.{lanes, least, common, spare}
use Rattle.values.specs.Serials.{serial_form}
use Rattle.values.proofs.Eights.{kept-both}
use Rattle.values.proofs.Fields.{misfit}
use Rattle.values.proofs.characters.is_serial.Goals as goal

pub returns-then-s-ne11 : goal.returns-then-s-ne11
unfolding pattern
returns-then-s-ne11 c = rw (misfit (pattern serial_form) c.args.s.now c.if-s-ne11.true)

pub returns : goal.returns
unfolding pattern lanes least common spare every
returns c =
    let e = c.eight.ensures in
    rw (c.keeps_form-first.ensures, c.keeps_form.ensures)
    (kept-both (pattern serial_form) c.args.s.now 3 _ _ (omega arith) refl c.if-s-ne11.false e.0 c.eight-2.ensures.0 refl e.1)
