-- Request [11]: a card that is read, and what the call answers.
use Rattle.std.specs.Prelude.{◌≡◌, ◌⊎◌, true, false, List, [], ◌++◌, ℕ, zero, suc, ◌+◌, ◌*◌, ◌<◌, ◌≤◌, length, get_or, take, drop}
use Rattle.text.specs.Beginnings.{Longest}
use Rattle.text.specs.Writing.{holding}
use Rattle.values.specs.Edition.{is_edition, tables_of, row_length}
use Rattle.frames.specs.Frames.{frame_of, on_wire}
use Rattle.frames.specs.Commands.{W1, set_account, set_table}
use Rattle.post.specs.Grammar.{Entry}
use Rattle.export.specs.Frames.{frames_of}
use Rattle.card.specs.Grammar.{IsCard}

-- SOH W1 STX K(account) ETX BCC, with parity
unfoldable pub account_frame : List ℕ → List ℕ
account_frame account = on_wire (frame_of W1 (set_account account))

-- the account's frame, then one a table, in order
unfoldable pub card_frames : List ℕ → List Entry → List ℕ
card_frames account es = account_frame account ++ frames_of es

-- 19 bytes, and 36 a table
abbrev pub frames_length : List Entry → ℕ
frames_length es = 19 + 36 * length es

-- number 1: the buffer begins with the frames of the card and is kept past them
pub record Done (tables : ℕ) (text out : List ℕ) (number size place : ℕ) (after : List ℕ) : Type 0 where
  pub done : number ≡ 1
  pub is-card : IsCard tables text
  pub room : frames_length is-card.entries ≤ length out
  pub long : size ≡ frames_length is-card.entries
  pub no_place : place ≡ 0
  pub written : after ≡ holding out (card_frames is-card.account is-card.entries)

-- number 41: a card, and a buffer shorter than its frames
pub record NoRoom (tables : ℕ) (text out : List ℕ) (number size place : ℕ) (after : List ℕ) : Type 0 where
  pub refused : number ≡ 41
  pub is-card : IsCard tables text
  pub short : length out < frames_length is-card.entries
  pub no_length : size ≡ 0
  pub no_place : place ≡ 0
  pub kept : after ≡ out

-- number 40: no card; the place is the check's
pub record NoCard (tables : ℕ) (text out : List ℕ) (number size place : ℕ) (after : List ℕ) : Type 0 where
  pub refused : number ≡ 40
  pub no-card : IsCard tables text → ⊥
  pub longest : Longest (IsCard tables) text place
  pub no_length : size ≡ 0
  pub kept : after ≡ out

unfoldable pub ReadAs : ℕ → List ℕ → List ℕ → ℕ → ℕ → ℕ → List ℕ → Type 0
ReadAs tables text out number size place after =
    Done tables text out number size place after ⊎ (NoRoom tables text out number size place after ⊎ NoCard tables text out number size place after)

-- [3]: 16 before all else for an edition that there is not
pub record ReadFor (edition : ℕ) (text out : List ℕ) (number size place : ℕ) (after : List ℕ) : Type 0 where
  pub none : is_edition edition ≡ false → (number ≡ 16) × (size ≡ 0) × (place ≡ 0) × (after ≡ out)
  pub some : is_edition edition ≡ true → ReadAs (tables_of edition) text out number size place after

-- the frame of the table field that a text begins with, and of the first n of them
unfoldable pub field_frame : List ℕ → List ℕ
field_frame s = on_wire (frame_of W1 (set_table (get_or s 3 0) (take row_length (drop 4 s))))

unfoldable pub field_frames : List ℕ → ℕ → List ℕ
field_frames s zero = []
field_frames s (suc n) = field_frames s n ++ field_frame (drop (28 * n) s)

-- of a card with n tables
unfoldable pub text_frames : List ℕ → ℕ → List ℕ
text_frames text n = account_frame (take 10 (drop 3 text)) ++ field_frames (drop 13 text) n
