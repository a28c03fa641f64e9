-- Document 01, "Posts" and number 20: the place of a text that is no post, and what the check answers.
use Rattle.std.specs.Prelude.{◌≡◌, ℕ, true, false, ◌⊎◌, List}
use Rattle.text.specs.Beginnings.{Longest}
use Rattle.values.specs.Edition.{is_edition, tables_of}
use Rattle.post.specs.Grammar.{IsPost}

-- number 1: a post; there is no place
pub record Accepted (tables : ℕ) (text : List ℕ) (number place : ℕ) : Type 0 where
  pub done : number ≡ 1
  pub no_place : place ≡ 0
  pub is-post : IsPost tables text

-- number 20: no post; the place is where the text leaves every post
pub record Refused (tables : ℕ) (text : List ℕ) (number place : ℕ) : Type 0 where
  pub refused : number ≡ 20
  pub no-post : IsPost tables text → ⊥
  pub longest : Longest (IsPost tables) text place

unfoldable pub CheckedAs : ℕ → List ℕ → ℕ → ℕ → Type 0
CheckedAs tables text number place = Accepted tables text number place ⊎ Refused tables text number place

-- [3]: an edition that there is not gives 16 before all else; a post for an edition is one of as many tables
pub record CheckedFor (edition : ℕ) (text : List ℕ) (number place : ℕ) : Type 0 where
  pub none : is_edition edition ≡ false → (number ≡ 16) × (place ≡ 0)
  pub some : is_edition edition ≡ true → CheckedAs (tables_of edition) text number place
