-- `commands::sign_off` meets its contract: too short a buffer, or the command as it was made. Assumes nothing.
use Rattle.std.proofs.lemmas.Result.{err_from_is_err_and}
use mathlib.Core.Path.{refl}
use mathlib.Core.List.{List, [], ◌∷◌}
use Prim.Native.Nat.{ℕ, ◌≤◌}
use lib.ListN.{length}
use native.Mathlib.Omega.{arith}
use Rattle.commands.proofs.Making.{frame_made, too_short, built}
use Rattle.frames.specs.Frames.{bare_frame, sealed}
use Rattle.commands.proofs.sign_off.Goals as goal

pub returns-in_err-room : goal.returns-in_err-room
returns-in_err-room c =
    let p = err_from_is_err_and c.from_residual.result c.from_residual.ensures.1 in
    rw (p.1, p.2) (too_short _ _ _ _ c.in_err-room.ensures.err)

pub returns : goal.returns
unfolding bare_frame sealed
returns c =
    let begun : List ℕ = 1 ∷ 66 ∷ 48 ∷ [] in
    let fits : 64 ≤ length c.args.buf.now = c.in_ok-room.ensures.ok in
    built _ _ _ _ _ fits refl (frame_made c.args.buf.now begun _ _ _ _ c.put-a.ensures.held c.put-a.ensures.next (omega arith) (omega arith) c.seal.ensures.whole c.seal.ensures.held)
