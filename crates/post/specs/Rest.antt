-- What may still stand below the lines that were read.
use Rattle.std.specs.Prelude.{◌≡◌, ℕ, ◌+◌, ◌≤◌, true, List, [], length, drop, ◌≢◌}
use Rattle.text.specs.Beginnings.{Longest}
use Rattle.post.specs.Grammar.{Entry, post_text, rising}
use Rattle.post.specs.Columns.{next_number, FirstStray}

-- the end of a post below the table number above; at the very top, 0, there is a line at least
pub record Rest (tables above : ℕ) (text : List ℕ) : Type 0 where
  pub entries : List Entry
  pub good : rising tables above entries ≡ true
  pub some : above ≡ 0 → entries ≢ []
  pub spelt : post_text entries ≡ text

-- lines were read up to the place, the last of them numbered above: what is right below them is right of the whole
pub record Passed (tables : ℕ) (text : List ℕ) (at above : ℕ) : Type 0 where
  pub in-text : at ≤ length text
  pub in_tables : above ≤ tables
  pub onward : Rest tables above (drop at text) → Rest tables 0 text
  pub back : Rest tables 0 text → Rest tables above (drop at text)
  pub longest : (k : ℕ) → Longest (Rest tables above) (drop at text) k → Longest (Rest tables 0) text (at + k)

-- and no line stands at the place, where a column strays
pub record Scanned (tables : ℕ) (text : List ℕ) (at above stray : ℕ) : Type 0 where
  pub passed : Passed tables text at above
  pub stops : 36 ≤ length (drop at text) → next_number tables above (drop at text) ≡ 0
  pub strays : FirstStray (drop at text) stray
