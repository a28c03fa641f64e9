-- Document 01, "Deciding a frame" and "Characters and checksum": a frame and a block, as characters and on the wire.
use Rattle.std.specs.Prelude.{List, [], ◌∷◌, ◌++◌, map, ℕ}
use Rattle.line.specs.Controls.{SOH, STX, ETX}
use Rattle.line.specs.Characters.{sent}
use Rattle.line.specs.Checksum.{bcc_of}

-- ETX, and the BCC of what came so far through ETX
unfoldable pub closed : List ℕ → List ℕ
closed body = (body ++ (ETX ∷ [])) ++ (bcc_of (body ++ (ETX ∷ [])) ∷ [])

-- the start character, and the rest closed
unfoldable pub sealed : List ℕ → List ℕ
sealed [] = []
sealed (start ∷ body) = start ∷ closed body

-- SOH, two characters, STX, data, ETX, BCC
unfoldable pub frame_of : List ℕ → List ℕ → List ℕ
frame_of command content = SOH ∷ closed (command ++ (STX ∷ content))

-- SOH, two characters, ETX, BCC
unfoldable pub bare_frame : List ℕ → List ℕ
bare_frame command = SOH ∷ closed command

-- STX, data, ETX, BCC
unfoldable pub block_of : List ℕ → List ℕ
block_of content = STX ∷ closed content

-- with parity, as it is sent
abbrev pub on_wire : List ℕ → List ℕ
on_wire = map sent
