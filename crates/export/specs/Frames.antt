-- Document 01, "Posts": the export, and what it answers.
use Rattle.std.specs.Prelude.{◌≡◌, ◌⊎◌, List, [], ◌∷◌, ◌++◌, ℕ, ◌*◌, ◌<◌, ◌≤◌, length, true, false}
use Rattle.text.specs.Beginnings.{Longest}
use Rattle.values.specs.Edition.{is_edition, tables_of}
use Rattle.text.specs.Writing.{holding}
use Rattle.frames.specs.Frames.{frame_of, on_wire}
use Rattle.frames.specs.Commands.{W1, set_table}
use Rattle.post.specs.Grammar.{Entry, IsPost}

-- SOH W1 STX Z(xx;row) ETX BCC, with parity
unfoldable pub entry_frame : Entry → List ℕ
entry_frame e = on_wire (frame_of W1 (set_table e.number e.row))

-- one frame a line, in order
unfoldable pub frames_of : List Entry → List ℕ
frames_of [] = []
frames_of (e ∷ es) = entry_frame e ++ frames_of es

-- number 1: the buffer begins with the frames of the post's entries and is kept past them
pub record Done (tables : ℕ) (text out : List ℕ) (number size place : ℕ) (after : List ℕ) : Type 0 where
  pub done : number ≡ 1
  pub is-post : IsPost tables text
  pub room : 36 * length is-post.entries ≤ length out
  pub long : size ≡ 36 * length is-post.entries
  pub no_place : place ≡ 0
  pub written : after ≡ holding out (frames_of is-post.entries)

-- number 21: a post, and a buffer under 36 bytes a line
pub record NoRoom (tables : ℕ) (text out : List ℕ) (number size place : ℕ) (after : List ℕ) : Type 0 where
  pub refused : number ≡ 21
  pub is-post : IsPost tables text
  pub short : length out < 36 * length is-post.entries
  pub no_length : size ≡ 0
  pub no_place : place ≡ 0
  pub kept : after ≡ out

-- number 20: no post; the place is the check's
pub record NoPost (tables : ℕ) (text out : List ℕ) (number size place : ℕ) (after : List ℕ) : Type 0 where
  pub refused : number ≡ 20
  pub no-post : IsPost tables text → ⊥
  pub longest : Longest (IsPost tables) text place
  pub no_length : size ≡ 0
  pub kept : after ≡ out

unfoldable pub ExportedAs : ℕ → List ℕ → List ℕ → ℕ → ℕ → ℕ → List ℕ → Type 0
ExportedAs tables text out number size place after =
    Done tables text out number size place after ⊎ (NoRoom tables text out number size place after ⊎ NoPost tables text out number size place after)

-- [3]: 16 before all else for an edition that there is not
pub record ExportedFor (edition : ℕ) (text out : List ℕ) (number size place : ℕ) (after : List ℕ) : Type 0 where
  pub none : is_edition edition ≡ false → (number ≡ 16) × (size ≡ 0) × (place ≡ 0) × (after ≡ out)
  pub some : is_edition edition ≡ true → ExportedAs (tables_of edition) text out number size place after
