-- Request [11]: what the card exporter writes to a text, and nothing more.
use Rattle.std.specs.Prelude.{◌≡◌, ◌⊎◌, true, false, List, ℕ, length}
use Rattle.text.specs.Beginnings.{Longest}
use Rattle.text.specs.Writing.{holding}
use Rattle.values.specs.Edition.{is_edition, tables_of}
use Rattle.numerals.specs.Numerals.{number_line}
use Rattle.card.specs.Grammar.{IsCard}
use Rattle.card.specs.Frames.{card_frames}

-- number 1: the frames of a card, in order
pub record FramesShown (tables : ℕ) (text : List ℕ) (number : ℕ) (shown : List ℕ) : Type 0 where
  pub done : number ≡ 1
  pub is-card : IsCard tables text
  pub all : shown ≡ card_frames is-card.account is-card.entries

-- number 40: for any other text 40, a space, the place in decimal and LF
pub record PlaceShown (tables : ℕ) (text : List ℕ) (number : ℕ) (shown : List ℕ) : Type 0 where
  pub refused : number ≡ 40
  pub no-card : IsCard tables text → ⊥
  pub place : ℕ
  pub longest : Longest (IsCard tables) text place
  pub all : shown ≡ number_line 40 place

unfoldable pub CardShown : ℕ → List ℕ → ℕ → List ℕ → Type 0
CardShown tables text number shown = FramesShown tables text number shown ⊎ PlaceShown tables text number shown

-- a buffer that begins with it, is kept past it, and its length
pub record ShowsCard (tables : ℕ) (text out : List ℕ) (number size : ℕ) (after : List ℕ) : Type 0 where
  pub shown : List ℕ
  pub is : CardShown tables text number shown
  pub long : size ≡ length shown
  pub held : after ≡ holding out shown

-- [3]: the same for an edition; of one that there is not it is 16, a space, 0 and LF
pub record ShownFor (edition : ℕ) (text out : List ℕ) (number size : ℕ) (after : List ℕ) : Type 0 where
  pub none : is_edition edition ≡ false → (number ≡ 16) × (size ≡ length (number_line 16 0)) × (after ≡ holding out (number_line 16 0))
  pub some : is_edition edition ≡ true → ShowsCard (tables_of edition) text out number size after
