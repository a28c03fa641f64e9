-- [3]: what a meter makes of a post's frames that were made for meters of another edition.
use Rattle.std.specs.Prelude.{Bool, true, cond, not, ◌&&◌, List, [], ◌∷◌, ◌++◌, ℕ, replicate}
use Rattle.values.specs.Registers.{good_table}
use Rattle.state.specs.declared.Meter.{Meter}
use Rattle.state.specs.Link.{link_of, is_wired}
use Rattle.state.specs.WellFormed.{tables_in}
use Rattle.state.specs.Setting.{in_mode}
use Rattle.post.specs.Grammar.{Entry}
use Rattle.dialogue.specs.Feeding.{Said}
use Rattle.delivery.specs.Acknowledged.{nothing, acknowledgement, refusal, delivered_to}

-- a table that the meter has is acknowledged, any other is refused with 9
abbrev pub answer_to : ℕ → ℕ → ℕ → Entry → Said
answer_to link tables speed e = cond (good_table tables e.number) (acknowledgement speed) (refusal link speed)

-- a frame of 36 bytes: nothing at each but the last
unfoldable pub answered_once : ℕ → ℕ → ℕ → List Entry → List Said
answered_once link tables speed [] = []
answered_once link tables speed (e ∷ es) = (replicate 35 (nothing speed) ++ (answer_to link tables speed e ∷ [])) ++ answered_once link tables speed es

-- the entries of a meter's own tables
unfoldable pub taken_of : ℕ → List Entry → List Entry
taken_of tables [] = []
taken_of tables (e ∷ es) = cond (good_table tables e.number) (e ∷ taken_of tables es) (taken_of tables es)

-- whether all are
unfoldable pub all_own : ℕ → List Entry → Bool
all_own tables [] = true
all_own tables (e ∷ es) = good_table tables e.number && all_own tables es

-- the rows of its own tables are in, and nothing else has changed
abbrev pub taken_by : Meter → List Entry → Meter
taken_by m es = delivered_to m (taken_of (tables_in m.registers) es)

-- but that on the wired link a refusal has ended the session, as [14] rules
abbrev pub left_by : Meter → List Entry → Meter
left_by m es = cond (is_wired (link_of m) && not (all_own (tables_in m.registers) es)) (in_mode (taken_by m es) 0) (taken_by m es)
