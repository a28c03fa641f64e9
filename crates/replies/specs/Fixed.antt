-- Document 01, "Receiving": the fixed sequences that a meter sends.
use Rattle.std.specs.Prelude.{cond, List, [], ◌∷◌, ℕ, eqb}
use Rattle.line.specs.Quoted.{chars}
use Rattle.line.specs.Controls.{ACK, NAK}
use Rattle.frames.specs.Frames.{frame_of}
use Rattle.frames.specs.Commands.{P0}

-- /ZZZ5SUB-VP01.00* CR LF; [3]: of edition 2 /ZZZ5SUB-VP02.00* CR LF
unfoldable pub identification : ℕ → List ℕ
identification edition = cond (eqb edition 2) (chars "/ZZZ5SUB-VP02.00*\r\n") (chars "/ZZZ5SUB-VP01.00*\r\n")

-- SOH P0 STX (0000) ETX BCC
unfoldable pub password_ask : List ℕ
password_ask = frame_of P0 (chars "(0000)")

-- ACK
abbrev pub accepted : List ℕ
accepted = ACK ∷ []

-- NAK
abbrev pub refused : List ℕ
refused = NAK ∷ []
