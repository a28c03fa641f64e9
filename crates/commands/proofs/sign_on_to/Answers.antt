-- `commands::sign_on_to` meets its contract: too short a buffer, a field outside its rule, or the command as it was made. Assumes nothing.
use Rattle.std.proofs.lemmas.Result.{err_from_is_err_and}
use mathlib.Core.Path.{sym, ◌∙◌}
use Rattle.commands.proofs.Making.{too_short, built, field-refused}
use native.Mathlib.Omega.{arith}
use Prim.Native.Nat.{◌≤◌}
use Rattle.values.proofs.Rules.{digits_long}
use Rattle.commands.proofs.Sent.{call-sent}
use Rattle.commands.proofs.sign_on_to.Goals as goal

pub returns-in_err-room : goal.returns-in_err-room
returns-in_err-room c =
    let p = err_from_is_err_and c.from_residual.result c.from_residual.ensures.1 in
    rw (p.1, p.2) (too_short _ _ _ _ c.in_err-room.ensures.err)

pub returns-in_err-field : goal.returns-in_err-field
returns-in_err-field c =
    let p = err_from_is_err_and c.from_residual-in_err-field.result c.from_residual-in_err-field.ensures.1 in
    rw (p.1, p.2) (field-refused _ _ _ _ c.in_ok-room.ensures.ok (sym c.is_digits.ensures ∙ c.in_err-field.ensures.err.0) c.in_err-field.ensures.err.1)

pub with_serial-requires : goal.with_serial-requires
with_serial-requires c =
    let places : 13 ≤ 16 = omega arith in
    (omega arith, (places, digits_long 10 _ (sym c.is_digits.ensures ∙ c.in_ok-field.ensures.ok)))

pub returns : goal.returns
returns c =
    let long = digits_long 10 c.args.serial.now (sym c.is_digits.ensures ∙ c.in_ok-field.ensures.ok) in
    rw (← call-sent c.args.serial.now long, ← c.with_serial.ensures) (built _ _ _ _ _ c.in_ok-room.ensures.ok (sym c.is_digits.ensures ∙ c.in_ok-field.ensures.ok) c.put_made.ensures)
