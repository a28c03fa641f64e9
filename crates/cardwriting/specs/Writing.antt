-- Request [11]: the card of a state, and what the writer answers.
use Rattle.std.specs.Prelude.{cond, Result, Ok, Err, List, [], ◌∷◌, ℕ, zero, suc, ◌+◌, ◌*◌, ltb, length}
use Rattle.text.specs.Writing.{holding}
use Rattle.values.specs.Edition.{is_edition}
use Rattle.state.specs.declared.Registers.{Registers}
use Rattle.state.specs.declared.Meter.{Meter}
use Rattle.state.specs.WellFormed.{tables_in, edition_of, well_formed}
use Rattle.replies.specs.Shown.{row_of}
use Rattle.post.specs.Grammar.{Entry}
use Rattle.card.specs.Grammar.{card_text}
use Rattle.cardwriting.specs.declared.Refusal.{Refusal}
use Rattle.cardwriting.specs.declared.Refusal.TheVariants.{NoEdition, Malformed, NoRoom}

-- a table with its row
abbrev pub entry_at : List ℕ → ℕ → Entry
entry_at rows n = record { number = n; row = row_of rows n }

-- so many tables from the one after a number on, with their rows
unfoldable pub entries_from : ℕ → ℕ → List ℕ → List Entry
entries_from above zero rows = []
entries_from above (suc n) rows = entry_at rows (suc above) ∷ entries_from (suc above) n rows

-- the card of a state: its account and all of its tables
unfoldable pub card_of : ℕ → Registers → List ℕ
card_of tables g = card_text g.account (entries_from 0 tables g.tables)

abbrev pub card_length : ℕ → ℕ
card_length tables = 13 + 28 * tables

-- the writer's answer: 1 with the card's length, 16, 14 or 41
pub record Written : Type 0 where
  pub number : ℕ
  pub length : ℕ

-- 16 for an edition that there is not, 14 for a malformed state, then 41 for a buffer shorter than the card, else 1 with the card's length
abbrev pub unwritten : ℕ → Written
unwritten number = record { number = number; length = 0 }

unfoldable pub written_in : Meter → List ℕ → Written
written_in m out =
    cond (is_edition (edition_of m))
    (cond (well_formed m)
    (cond (ltb (length out) (card_length (tables_in m.registers))) (unwritten 41) (record { number = 1; length = card_length (tables_in m.registers) }))
    (unwritten 14))
    (unwritten 16)

-- the code's answer
abbrev pub refusal_number : Refusal → ℕ
refusal_number NoEdition = 16
refusal_number Malformed = 14
refusal_number NoRoom = 41

abbrev pub told : Result ℕ Refusal → Written
told (Ok length) = record { number = 1; length = length }
told (Err refusal) = unwritten (refusal_number refusal)

-- the buffer begins with the card just where it is written, and keeps all else
unfoldable pub written_to : Meter → List ℕ → List ℕ
written_to m out =
    cond (is_edition (edition_of m))
    (cond (well_formed m) (cond (ltb (length out) (card_length (tables_in m.registers))) out (holding out (card_of (tables_in m.registers) m.registers))) out)
    out
