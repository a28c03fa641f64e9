-- Characters as they are read: a quoted text, and one quoted character, as their codes.
use Rattle.std.specs.Prelude.{List, [], ◌∷◌, ℕ}
use Prim.Native.Char.{Char, code}
use Prim.Native.String.{String, [] as no_text, ◌∷◌ as ◌before◌}

abbrev pub char : Char → ℕ
char = code

abbrev pub chars : String → List ℕ
chars no_text = []
chars (c before s) = char c ∷ chars s
