-- Document 01, the lines of "Deciding a frame": each value as the text that shows it.
use Rattle.std.specs.Prelude.{List, [], ◌∷◌, ◌++◌, ℕ, ◌-◌, ◌/◌, ◌%◌, ◌^◌, take, drop}
use Rattle.line.specs.Quoted.{char, chars}
use Rattle.text.specs.Layout.{Piece, digits, fixed, layout_text}
use Rattle.clock.specs.declared.Date.{Date}
use Rattle.clock.specs.declared.Time.{Time}
use Rattle.clock.specs.declared.Clock.{Clock}
use Rattle.clock.specs.declared.Stamp.{Stamp}
use Rattle.values.specs.Family.{counter_digits, counter_decimals}

-- a serial's digits, with a character between the third and the fourth
abbrev pub parted : ℕ → List ℕ → List ℕ
parted between s = take 3 s ++ (between ∷ drop 3 s)

-- nnn nnnnnnn
unfoldable pub serial_text : List ℕ → List ℕ
serial_text s = parted (char " ") s

-- nnn.nnnnnnn, on the wired link
unfoldable pub wired_text : List ℕ → List ℕ
wired_text s = parted (char ".") s

-- xx
abbrev pub table_form : List Piece
table_form = digits 2 ∷ []

unfoldable pub table_text : ℕ → List ℕ
table_text n = layout_text table_form (n ∷ [])

-- three numbers of two digits, with a character between them
abbrev pub three_twos : ℕ → List Piece
three_twos sep = digits 2 ∷ fixed (sep ∷ []) ∷ digits 2 ∷ fixed (sep ∷ []) ∷ digits 2 ∷ []

-- yy-mm-dd
abbrev pub date_form : List Piece
date_form = three_twos (char "-")

unfoldable pub date_text : Date → List ℕ
date_text d = layout_text date_form ((d.year - 2000) ∷ d.month ∷ d.day ∷ [])

-- hh:nn:ss
abbrev pub time_form : List Piece
time_form = three_twos (char ":")

unfoldable pub time_text : Time → List ℕ
time_text t = layout_text time_form (t.hour ∷ t.minute ∷ t.second ∷ [])

-- dd-mm-yyyy;hh:nn:ss
abbrev pub clock_form : List Piece
clock_form = digits 2 ∷ fixed (chars "-") ∷ digits 2 ∷ fixed (chars "-") ∷ digits 4 ∷ fixed (chars ";") ∷ time_form

unfoldable pub clock_text : Clock → List ℕ
clock_text c =
    layout_text clock_form (c.date.day ∷ c.date.month ∷ c.date.year ∷ c.time.hour ∷ c.time.minute ∷ c.time.second ∷ [])

-- yy-mm-dd hh:nn, of a closed period
abbrev pub stamp_form : List Piece
stamp_form = date_form ++ (fixed (chars " ") ∷ digits 2 ∷ fixed (chars ":") ∷ digits 2 ∷ [])

unfoldable pub stamp_text : Stamp → List ℕ
stamp_text t = layout_text stamp_form ((t.date.year - 2000) ∷ t.date.month ∷ t.date.day ∷ t.hour ∷ t.minute ∷ [])

-- eeeeee.eee*kWh: so many digits in all, so many of them decimals
abbrev pub counter_form : ℕ → ℕ → List Piece
counter_form all decimals = digits (all - decimals) ∷ fixed (chars ".") ∷ digits decimals ∷ fixed (chars "*kWh") ∷ []

unfoldable pub counter_text : ℕ → ℕ → ℕ → List ℕ
counter_text all decimals n = layout_text (counter_form all decimals) ((n / 10 ^ decimals) ∷ (n % 10 ^ decimals) ∷ [])

-- of nine digits those from one on, with a point before another, and the unit
unfoldable pub pointed : ℕ → ℕ → List ℕ → List ℕ
pointed first point nine = take (point - first) (drop first nine) ++ (chars "." ++ (take (9 - point) (drop point nine) ++ chars "*kWh"))

-- as a family shows it
unfoldable pub energy_text : ℕ → ℕ → List ℕ
energy_text family n = counter_text (counter_digits family) (counter_decimals family) n
