-- How far a text is like some whole text of a kind: the place of a text that is none.
use Rattle.std.specs.Prelude.{◌≡◌, List, ℕ, ◌≤◌, length, take}

-- some whole text of the kind has the same first k characters
pub record Shares (Whole : List ℕ → Type 0) (text : List ℕ) (k : ℕ) : Type 0 where
  pub other : List ℕ
  pub is_whole : Whole other
  pub within : k ≤ length text
  pub within-other : k ≤ length other
  pub same : take k other ≡ take k text

-- the longest beginning shared with some whole text of the kind
pub record Longest (Whole : List ℕ → Type 0) (text : List ℕ) (place : ℕ) : Type 0 where
  pub shared : Shares Whole text place
  pub most : (k : ℕ) → Shares Whole text k → k ≤ place
