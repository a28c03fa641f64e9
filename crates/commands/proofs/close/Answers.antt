-- `commands::close` meets its contract: too short a buffer, or the command as it was made. Assumes nothing.
use Rattle.std.proofs.lemmas.Result.{err_from_is_err_and}
use mathlib.Core.Path.{refl}
use Rattle.commands.proofs.Making.{too_short, built}
use Rattle.frames.specs.Session.{closing_sign_on}
use Rattle.commands.proofs.close.Goals as goal

pub returns-in_err-room : goal.returns-in_err-room
returns-in_err-room c =
    let p = err_from_is_err_and c.from_residual.result c.from_residual.ensures.1 in
    rw (p.1, p.2) (too_short _ _ _ _ c.in_err-room.ensures.err)

pub returns : goal.returns
unfolding closing_sign_on
returns c = built _ _ _ _ _ c.in_ok-room.ensures.ok refl c.line_of.ensures
