-- `reporting::opened` meets its contract: the bytes are sign-on, confirmation and password on the wire. Assumes nothing.
use mathlib.Core.Path.{◌≡◌, refl, ap, ◌∙◌}
use mathlib.Core.List.{List, [], ◌∷◌}
use Prim.Native.Nat.{ℕ}
use lib.Count.{ones}
use Rattle.line.specs.Characters.{seven, sent}
use Rattle.line.specs.Checksum.{bcc_of}
use Rattle.frames.specs.Frames.{closed, frame_of}
use Rattle.frames.specs.Commands.{bracketed}
use Rattle.frames.specs.Session.{sign_on, confirmation, password_data}
use Rattle.state.specs.declared.Meter.{Meter}
use Rattle.dialogue.specs.Feeding.{left, full}
use Rattle.reporting.specs.Report.{opening, opened_meter}
use Rattle.reporting.proofs.opened.Goals as goal

bytes : List ℕ
bytes = 175 ∷ 63 ∷ 33 ∷ 141 ∷ 10 ∷ 6 ∷ 48 ∷ 53 ∷ 177 ∷ 141 ∷ 10 ∷ 129 ∷ 80 ∷ 177 ∷ 130 ∷ 40 ∷ 48 ∷ 48 ∷ 48 ∷ 48 ∷ 48 ∷ 48 ∷ 48 ∷ 48 ∷ 169 ∷ 3 ∷ 225 ∷ []

opening-is : bytes ≡ opening
unfolding ones bytes opening sign_on confirmation password_data bracketed frame_of closed bcc_of sent seven
opening-is = refl

pub returns : goal.returns
unfolding opened_meter bytes
returns c = c.feed.ensures.next ∙ ap (λ (m : Meter). left m full bytes) c.new_meter.ensures ∙ ap (left _ full) opening-is
