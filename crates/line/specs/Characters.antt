-- Document 01, "Characters and checksum": what a wire byte is, and what it carries.
use Rattle.std.specs.Prelude.{Bool, not, List, ℕ, ◌+◌, ◌*◌, ◌%◌, eqb}
use Rattle.std.specs.Int.Count.{ones}
use Rattle.line.specs.Runs.{every}

-- the count of ones in the byte is even; anything else is a damaged character
unfoldable pub damaged_at : ℕ → Bool
damaged_at b = not (eqb (ones b % 2) 0)

-- a wire byte's seven data bits
unfoldable pub seven : ℕ → ℕ
seven b = b % 128

-- a character as a wire byte: seven data bits and an even-parity top bit
unfoldable pub sent : ℕ → ℕ
unfolding seven
sent c = seven c + ones (seven c) % 2 * 128

-- no byte of a run is damaged
abbrev pub undamaged_at : ℕ → Bool
undamaged_at b = not (damaged_at b)

unfoldable pub undamaged_all : List ℕ → Bool
undamaged_all = every undamaged_at
