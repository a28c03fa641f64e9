-- `commands::write_account` meets its contract: too short a buffer, a field outside its rule, or the command as it was made. Assumes nothing.
use Rattle.std.proofs.lemmas.Result.{err_from_is_err_and}
use mathlib.Core.Path.{sym, ◌∙◌}
use Rattle.commands.proofs.Making.{too_short, built, field-refused}
use Rattle.frames.specs.Commands.{set_account, bracketed}
use Rattle.frames.specs.Frames.{frame_of, sealed}
use Rattle.values.proofs.Rules.{account-long}
use native.Mathlib.Omega.{arith}
use lib.ListN.{length}
use mathlib.Core.Path.{◌≡◌}
use Rattle.commands.proofs.write_account.Goals as goal

pub returns-in_err-room : goal.returns-in_err-room
returns-in_err-room c =
    let p = err_from_is_err_and c.from_residual.result c.from_residual.ensures.1 in
    rw (p.1, p.2) (too_short _ _ _ _ c.in_err-room.ensures.err)

pub returns-in_err-field : goal.returns-in_err-field
returns-in_err-field c =
    let p = err_from_is_err_and c.from_residual-in_err-field.result c.from_residual-in_err-field.ensures.1 in
    rw (p.1, p.2) (field-refused _ _ _ _ c.in_ok-room.ensures.ok (sym c.is_account.ensures ∙ c.in_err-field.ensures.err.0) c.in_err-field.ensures.err.1)

pub aside-requires : goal.aside-requires
aside-requires c =
    let long : length c.args.account.now ≡ 10 = account-long _ (sym c.is_account.ensures ∙ c.in_ok-field.ensures.ok) in
    record { room = c.in_ok-room.ensures.ok; begun = omega arith; small = omega arith }

pub returns : goal.returns
unfolding frame_of sealed set_account bracketed
returns c =
    built _ _ _ _ _ c.in_ok-room.ensures.ok (sym c.is_account.ensures ∙ c.in_ok-field.ensures.ok) c.aside.ensures
