-- Document 01, "What is built": what the exporter writes to a text, and nothing more.
use Rattle.std.specs.Prelude.{◌≡◌, ◌⊎◌, true, false, List, ℕ, length}
use Rattle.text.specs.Beginnings.{Longest}
use Rattle.text.specs.Writing.{holding}
use Rattle.values.specs.Edition.{is_edition, tables_of}
use Rattle.numerals.specs.Numerals.{number_line}
use Rattle.post.specs.Grammar.{IsPost}
use Rattle.export.specs.Frames.{frames_of}

-- number 1: the frames of a post, in order
pub record FramesShown (tables : ℕ) (text : List ℕ) (number : ℕ) (shown : List ℕ) : Type 0 where
  pub done : number ≡ 1
  pub is-post : IsPost tables text
  pub all : shown ≡ frames_of is-post.entries

-- number 20: for any other text 20, a space, the place in decimal and LF
pub record PlaceShown (tables : ℕ) (text : List ℕ) (number : ℕ) (shown : List ℕ) : Type 0 where
  pub refused : number ≡ 20
  pub no-post : IsPost tables text → ⊥
  pub place : ℕ
  pub longest : Longest (IsPost tables) text place
  pub all : shown ≡ number_line 20 place

unfoldable pub ExportShown : ℕ → List ℕ → ℕ → List ℕ → Type 0
ExportShown tables text number shown = FramesShown tables text number shown ⊎ PlaceShown tables text number shown

-- a buffer that begins with it, is kept past it, and its length
pub record ShowsExport (tables : ℕ) (text out : List ℕ) (number size : ℕ) (after : List ℕ) : Type 0 where
  pub shown : List ℕ
  pub is : ExportShown tables text number shown
  pub long : size ≡ length shown
  pub held : after ≡ holding out shown

-- [3]: the same for an edition; of one that there is not it is 16, a space, 0 and LF
pub record ShownFor (edition : ℕ) (text out : List ℕ) (number size : ℕ) (after : List ℕ) : Type 0 where
  pub none : is_edition edition ≡ false → (number ≡ 16) × (size ≡ length (number_line 16 0)) × (after ≡ holding out (number_line 16 0))
  pub some : is_edition edition ≡ true → ShowsExport (tables_of edition) text out number size after
