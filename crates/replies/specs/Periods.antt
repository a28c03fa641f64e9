-- [12], "Closed months": the data block with the closed periods after its tables.
use Rattle.std.specs.Prelude.{Bool, true, false, cond, List, [], ◌∷◌, ◌++◌, ℕ, ◌+◌, eqb, get_or}
use Rattle.line.specs.Quoted.{chars}
use Rattle.line.specs.Controls.{STX}
use Rattle.state.specs.declared.Period.{Period}
use Rattle.state.specs.declared.Registers.{Registers}
use Rattle.state.specs.Setting.{zone_place}
use Rattle.state.specs.Closing.{periods_of}
use Rattle.state.specs.WellFormed.{family_in}
use Rattle.datasets.specs.Sets.{DataSet, lines_of, closed_set, kept_set}
use Rattle.replies.specs.Block.{in_and_out, block_sets}

-- the counter of a zone as it stood
abbrev pub kept_in : List ℕ → ℕ → ℕ
kept_in zones n = get_or zones (zone_place n) 0

-- T1 to T4 of the period numbered k
unfoldable pub kept_sets : ℕ → Bool → ℕ → List ℕ → List DataSet
kept_sets family out k zones =
    kept_set family out k 1 (kept_in zones 1) ∷ kept_set family out k 2 (kept_in zones 2) ∷ kept_set family out k 3 (kept_in zones 3)
    ∷ kept_set family out k 4 (kept_in zones 4) ∷ []

-- its time, and these; an EQM meter keeps eight
unfoldable pub period_sets : ℕ → ℕ → Period → List DataSet
period_sets family k p =
    closed_set k p.closed ∷ in_and_out family (kept_sets family false k p.zones) (kept_sets family true k p.exported)

-- so many characters: 26 and four lines of 27, or eight of 25
unfoldable pub period_long : ℕ → ℕ
period_long family = cond (eqb family 0) 134 226

-- some periods, numbered from k on
unfoldable pub archive_sets : ℕ → ℕ → List Period → List DataSet
archive_sets family k [] = []
archive_sets family k (p ∷ ps) = period_sets family k p ++ archive_sets family (k + 1) ps

-- the block, and the periods from 01 on, the newest first
unfoldable pub long_sets : ℕ → Registers → List DataSet
long_sets tables g = block_sets tables g ++ archive_sets (family_in g) 1 (periods_of g.archive)

-- as far as the tables go: STX and the lines of the block
unfoldable pub long_start : ℕ → Registers → List ℕ
long_start tables g = STX ∷ lines_of (block_sets tables g)

-- and the line that ends it, `!` CR LF
unfoldable pub long_data : ℕ → Registers → List ℕ
long_data tables g = lines_of (long_sets tables g) ++ chars "!\r\n"
