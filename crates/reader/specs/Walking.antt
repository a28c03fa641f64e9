-- Document 01, "The head": a reader keeps its place in the lent data and yields the data sets one by one.
use Rattle.std.specs.Prelude.{List, ℕ}
use Rattle.std.specs.Borrow.{Bor}
use Rattle.reading.specs.Sets.{SetRead, set_told, set_read}
use Rattle.reading.specs.Whole.{place_after}
use Rattle.reader.specs.declared.Reader.{Reader}
use Rattle.reader.specs.declared.Reached.{Reached}

-- an answer, and the place that it was read at
pub record Placed : Type 0 where
  pub start : ℕ
  pub set : SetRead

abbrev pub reached_told : Reached → Placed
reached_told r = record { start = r.start; set = set_told r.start r.set }

-- a reader that has read nothing yet
abbrev pub at_start : Bor (List ℕ) → Reader
at_start lent = record { «data» = lent; at = 0 }

-- what a reader answers: the set at its place, the end, or 25
abbrev pub yields : Reader → SetRead
yields r = set_read r.«data».now r.at

-- the reader afterwards, over the same data: past the set, or where it was
abbrev pub moved : Reader → Reader
moved r = record { «data» = r.«data»; at = (yields r).next }

-- the answer after so many sets, and where it was read
abbrev pub set_after : List ℕ → ℕ → Placed
set_after s n = record { start = place_after s n 0; set = set_read s (place_after s n 0) }
