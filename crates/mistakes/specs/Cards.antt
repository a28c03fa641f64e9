-- Two wrong answers for each call of `card` and `cardwriting`. The C functions of `cardlink` and what the card exporter shows have the same promises.
use Rattle.std.specs.Prelude.{List, [], ◌∷◌, ◌++◌, ℕ, zero, suc, drop, replicate}
use Rattle.state.specs.Setting.{with_attempts}
use Rattle.card.specs.Grammar.{account_field, card_text}
use Rattle.card.specs.Place.{CheckedAs}
use Rattle.card.specs.Frames.{ReadAs}
use Rattle.replies.specs.Shown.{row_of}
use Rattle.post.specs.Grammar.{Entry}
use Rattle.card.specs.Refusals as refused
use Rattle.card.specs.declared.Refusal.TheVariants as card
use Rattle.cardwriting.specs.Writing as written
use Rattle.cardwriting.specs.declared.Refusal.TheVariants as writer
use Rattle.cardwriting.specs.Writing.{card_of, written_in, written_to}
use Rattle.mistakes.specs.RuledOut.{RuledOut}
use Rattle.mistakes.specs.Samples.{account, twos}
use Rattle.mistakes.specs.Posts.{entry, one, ready}

-- an account and table 7
unfoldable pub sample : List ℕ
sample = card_text account one

-- the length's bytes the other way about; a second account; table 7 again
unfoldable pub swapped : List ℕ
swapped = 1 ∷ 10 ∷ 0 ∷ account

unfoldable pub second_account : List ℕ
second_account = account_field account ++ account_field account

unfoldable pub equal_numbers : List ℕ
equal_numbers = card_text account (entry 7 twos ∷ entry 7 twos ∷ [])

-- of `card`
pub record Cards : Type 0 where
  -- length bytes swapped, and a second account, accepted
  pub check : (CheckedAs 24 swapped 1 0 → ⊥) × (CheckedAs 24 second_account 1 0 → ⊥)
  -- equal numbers accepted; a card refused, at whatever place
  pub check-numbers : (CheckedAs 24 equal_numbers 1 0 → ⊥) × ((place : ℕ) → CheckedAs 24 sample 40 place → ⊥)
  -- place 0 for a text that strays in its account
  pub makes-up-the-place : CheckedAs 24 swapped 40 0 → ⊥
  -- tag 1 taken where a table belongs, up to the length
  pub takes-a-second-account : CheckedAs 24 second_account 40 15 → ⊥
  -- table 7 of 6 accepted; table 7 of 7 refused
  pub check_of : (CheckedAs 6 sample 1 0 → ⊥) × ((place : ℕ) → CheckedAs 7 sample 40 place → ⊥)
  -- 41 before 40; 41 for a buffer that is just large enough
  pub read : ((place : ℕ) → ReadAs 24 swapped [] 41 0 place [] → ⊥)
      × ((size place : ℕ) (after : List ℕ) → ReadAs 24 sample (replicate 55 0) 41 size place after → ⊥)
  -- the place for the length, which is 0 where a card is read
  pub hands-out-the-place-as-length : (place : ℕ) (after : List ℕ) → ReadAs 24 sample (replicate 55 0) 1 0 place after → ⊥
  -- table 7 of 6 read; table 7 of 7 refused
  pub read_of : ((size place : ℕ) (after : List ℕ) → ReadAs 6 sample (replicate 55 0) 1 size place after → ⊥)
      × ((size place : ℕ) (after : List ℕ) → ReadAs 7 sample (replicate 55 0) 40 size place after → ⊥)

-- of `card::Refusal`
pub record CardRefusals : Type 0 where
  -- a buffer that is too short told as a text that is no card, and the other way about
  pub number : RuledOut (refused.refusal_number card.NoRoom) 40 × RuledOut (refused.refusal_number (card.NoCard 5)) 41
  -- place 0 for a text that strays further on; a place of a buffer that is too short
  pub place : RuledOut (refused.refusal_place (card.NoCard 5)) 0 × RuledOut (refused.refusal_place card.NoRoom) 1

-- of `cardwriting::Refusal`
pub record WriterRefusals : Type 0 where
  -- a malformed state told as a buffer that is too short, and as an edition that there is not
  pub number : RuledOut (written.refusal_number writer.Malformed) 41 × RuledOut (written.refusal_number writer.Malformed) 16

-- so many tables from this number on, each with the row of the next
unfoldable pub from_zero : ℕ → ℕ → List ℕ → List Entry
from_zero n zero rows = []
from_zero n (suc k) rows = record { number = n; row = row_of rows (suc n) } ∷ from_zero (suc n) k rows

-- the card of that state with the account's length the other way about
unfoldable pub low_byte_first : List ℕ
low_byte_first = 1 ∷ 10 ∷ 0 ∷ drop 3 (card_of 24 ready.registers)

-- of `cardwriting`
pub record CardsWritten : Type 0 where
  -- 14 for a good state without room; 41 before 14
  pub write : RuledOut (written_in ready []) (record { number = 14; length = 0 })
      × RuledOut (written_in (with_attempts ready 4) []) (record { number = 41; length = 0 })
  -- tables 0 to 23
  pub numbers-from-zero : RuledOut (written_to ready (replicate 685 0)) (card_text account (from_zero 0 24 ready.registers.tables))
  -- the low byte of the account's length first
  pub writes-the-low-byte-first : RuledOut (written_to ready (replicate 685 0)) low_byte_first
