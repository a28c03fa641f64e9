-- What may still stand behind the fields that were read.
use Rattle.std.specs.Prelude.{◌≡◌, true, false, List, ℕ, ◌+◌, ◌<◌, ◌≤◌, length, drop}
use Rattle.text.specs.Beginnings.{Longest}
use Rattle.post.specs.Grammar.{Entry, rising}
use Rattle.card.specs.Grammar.{table_fields, IsCard}
use Rattle.card.specs.Columns.{table_stands}

-- the end of a card behind the table number above
pub record Fields (tables above : ℕ) (text : List ℕ) : Type 0 where
  pub entries : List Entry
  pub good : rising tables above entries ≡ true
  pub spelt : table_fields entries ≡ text

-- fields were read up to the place, the last table of them numbered above: what is right behind them is right of the whole
pub record Passed (tables : ℕ) (text : List ℕ) (at above : ℕ) : Type 0 where
  pub in-text : at ≤ length text
  pub onward : Fields tables above (drop at text) → IsCard tables text
  pub back : IsCard tables text → Fields tables above (drop at text)
  pub longest : (k : ℕ) → Longest (Fields tables above) (drop at text) k → Longest (IsCard tables) text (at + k)

-- and no field stands at the place, if anything does
pub record Scanned (tables : ℕ) (text : List ℕ) (at above : ℕ) : Type 0 where
  pub passed : Passed tables text at above
  pub stops : at < length text → table_stands tables above (drop at text) ≡ false
