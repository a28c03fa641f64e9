-- Document 01, "Deciding a frame", 3: SOH, two printable characters, then ETX, or STX, printable data (possibly none), ETX.
use Rattle.std.specs.Prelude.{Bool, ◌&&◌, List, ℕ, ◌-◌, eqb, leb, length, get_or, take, drop}
use Rattle.line.specs.Controls.{SOH, STX, ETX}
use Rattle.line.specs.Runs.{every}
use Rattle.text.specs.Classes.{is_printable}

unfoldable pub start_good : List ℕ → Bool
start_good h = eqb (get_or h 0 0) SOH && (is_printable (get_or h 1 0) && is_printable (get_or h 2 0))

unfoldable pub bare_shape : List ℕ → Bool
bare_shape h = start_good h && (eqb (length h) 4 && eqb (get_or h 3 0) ETX)

-- the data between STX and ETX
unfoldable pub content : List ℕ → List ℕ
content h = take (length h - 5) (drop 4 h)

unfoldable pub framed_shape : List ℕ → Bool
framed_shape h =
    (start_good h && ((leb 5 (length h) && eqb (get_or h 3 0) STX) && eqb (get_or h (length h - 1) 0) ETX)) && every is_printable (content h)
