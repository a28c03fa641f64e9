-- What a lent buffer holds after something was written to it.
use Rattle.std.specs.Prelude.{List, [], ◌∷◌, ◌++◌, ℕ, ◌+◌, length, drop, set}

-- the buffer with the characters put in from a place on, one after the other
unfoldable pub stored : List ℕ → ℕ → List ℕ → List ℕ
stored buf at [] = buf
stored buf at (x ∷ xs) = stored (set buf at x) (at + 1) xs

-- the buffer that begins with the message, and keeps what it held past it
unfoldable pub holding : List ℕ → List ℕ → List ℕ
holding buf message = message ++ drop (length message) buf
