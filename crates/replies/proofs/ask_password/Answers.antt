-- `replies::ask_password` meets its contract: put in front, then closed. Assumes nothing.
use native.Mathlib.Omega.{arith}
use mathlib.Core.List.{[], ◌∷◌}
use Rattle.frames.specs.Frames.{sealed, frame_of}
use Rattle.frames.specs.Commands.{bracketed}
use Rattle.replies.specs.Fixed.{password_ask}
use Rattle.frames.proofs.Sealing.{sealing}
use Rattle.replies.proofs.ask_password.Goals as goal

pub returns : goal.returns
unfolding password_ask frame_of bracketed sealed
returns c =
    let written = c.put-n.ensures in
    let shut = c.seal.ensures in
    record { whole = omega (arith, written.next, shut.whole); held = sealing c.args.buf.now (1 ∷ 80 ∷ 48 ∷ 2 ∷ 40 ∷ 48 ∷ 48 ∷ 48 ∷ 48 ∷ 41 ∷ []) _ _ (omega arith) written.next written.held _ (omega arith) shut.held }
