-- Request [11]: what a card is, built up from its account and its rows.
use Rattle.std.specs.Prelude.{◌≡◌, true, List, [], ◌∷◌, ◌++◌, ℕ, ◌/◌, ◌%◌, length}
use Rattle.values.specs.Registers.{good_account}
use Rattle.post.specs.Grammar.{Entry, rising}

-- a field: its tag, the length of its content in two bytes with the high byte first, its content
unfoldable pub field_text : ℕ → List ℕ → List ℕ
field_text tag content = tag ∷ (length content / 256) ∷ (length content % 256) ∷ content

-- tag 1: the account
unfoldable pub account_field : List ℕ → List ℕ
account_field account = field_text 1 account

-- tag 2: a table's number in one byte, and its row
unfoldable pub table_field : Entry → List ℕ
table_field e = field_text 2 (e.number ∷ e.row)

unfoldable pub table_fields : List Entry → List ℕ
table_fields [] = []
table_fields (e ∷ es) = table_field e ++ table_fields es

-- the account first and once, then the tables; there may be none
unfoldable pub card_text : List ℕ → List Entry → List ℕ
card_text account es = account_field account ++ table_fields es

-- the text of a good account and of good entries that rise strictly, of so many tables, and nothing more
pub record IsCard (tables : ℕ) (text : List ℕ) : Type 0 where
  pub account : List ℕ
  pub entries : List Entry
  pub good-account : good_account account ≡ true
  pub good : rising tables 0 entries ≡ true
  pub spelt : card_text account entries ≡ text
