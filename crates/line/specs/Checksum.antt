-- Document 01, "Characters and checksum": the BCC.
use Rattle.std.specs.Prelude.{List, [], ◌∷◌, ℕ}
use Rattle.std.specs.Int.Bits.{bit_xor}
use Rattle.line.specs.Characters.{seven}

-- the exclusive-or of the seven bits of each byte
unfoldable pub bcc_of : List ℕ → ℕ
bcc_of [] = 0
bcc_of (b ∷ bs) = bit_xor (seven b) (bcc_of bs)
