-- Document 01's sizes, each named once.
use Rattle.std.specs.Prelude.{ℕ}
pub use Rattle.values.specs.Edition.{row_length, table_places}

-- a receiver holds 63 characters at most
abbrev pub most_held : ℕ
most_held = 63

-- and has one place more, so that the places are whole words
abbrev pub held_places : ℕ
held_places = 64

-- the least room of a reply buffer
abbrev pub reply_room : ℕ
reply_room = 4096

-- [12]: an archive keeps 12 periods at most
abbrev pub period_places : ℕ
period_places = 12

-- the places of all rows, and those that a meter of every edition uses: all but the last row
abbrev pub all_rows : ℕ
all_rows = 600

abbrev pub first_rows : ℕ
first_rows = 576
