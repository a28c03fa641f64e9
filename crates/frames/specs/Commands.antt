-- Document 01, "Deciding a frame": the commands, and the data of each.
use Rattle.std.specs.Prelude.{List, ◌∷◌, ◌++◌, ℕ, ◌+◌}
use Rattle.line.specs.Quoted.{char, chars}
use Rattle.clock.specs.declared.Clock.{Clock}
use Rattle.values.specs.Texts.{table_text, clock_text}

abbrev pub B0 : List ℕ
B0 = chars "B0"

abbrev pub P0 : List ℕ
P0 = chars "P0"

abbrev pub P1 : List ℕ
P1 = chars "P1"

abbrev pub R1 : List ℕ
R1 = chars "R1"

abbrev pub W1 : List ℕ
W1 = chars "W1"

-- (content)
unfoldable pub bracketed : List ℕ → List ℕ
bracketed content = chars "(" ++ (content ++ chars ")")

-- R1: T(), L(), K(), E0() to E4(), Z(xx); [10]: G0() to G4()
unfoldable pub ask_clock : List ℕ
ask_clock = chars "T()"

unfoldable pub ask_serial : List ℕ
ask_serial = chars "L()"

unfoldable pub ask_account : List ℕ
ask_account = chars "K()"

-- a letter with a number: 0 asks for the total, 1 to 4 for a zone
abbrev pub lettered : ℕ → ℕ → List ℕ
lettered letter n = letter ∷ (char "0" + n) ∷ chars "()"

-- of what came in, and of what went out
unfoldable pub ask_energy : ℕ → List ℕ
ask_energy n = lettered (char "E") n

unfoldable pub ask_export : ℕ → List ℕ
ask_export n = lettered (char "G") n

unfoldable pub ask_table : ℕ → List ℕ
ask_table n = char "Z" ∷ bracketed (table_text n)

-- W1: T(dd-mm-yyyy;hh:nn:ss), K(account), Z(xx;row)
unfoldable pub set_clock : Clock → List ℕ
set_clock c = char "T" ∷ bracketed (clock_text c)

unfoldable pub set_account : List ℕ → List ℕ
set_account account = char "K" ∷ bracketed account

unfoldable pub set_table : ℕ → List ℕ → List ℕ
set_table n row = char "Z" ∷ bracketed (table_text n ++ (char ";" ∷ row))
