-- Document 01, "The head": serial, account and row read back to the characters that made them, or zeros.
use Rattle.std.specs.Prelude.{Bool, true, false, cond, Option, is_some, unwrap_or, List, [], ◌∷◌, ◌++◌, ℕ, take, drop, replicate}
use Rattle.line.specs.Quoted.{chars}
use Rattle.text.specs.Layout.{Piece, digits, fixed, pattern, fits}
use Rattle.values.specs.Edition.{row_length}
use Rattle.values.specs.Registers.{good_account, good_row}

-- what was read, and whether anything was; zeros where nothing was
pub record SerialRead : Type 0 where
  pub ok : Bool
  pub serial : List ℕ

pub record AccountRead : Type 0 where
  pub ok : Bool
  pub account : List ℕ

pub record RowRead : Type 0 where
  pub ok : Bool
  pub row : List ℕ

-- nnn nnnnnnn
abbrev pub serial_form : List Piece
serial_form = digits 3 ∷ fixed (chars " ") ∷ digits 7 ∷ []

abbrev pub no_serial : SerialRead
no_serial = record { ok = false; serial = replicate 10 0 }

-- what a function that reads gives, so told
abbrev pub serial_found : Option (List ℕ) → SerialRead
serial_found o = record { ok = is_some o; serial = unwrap_or o no_serial.serial }

-- its ten digits
unfoldable pub serial_read : List ℕ → SerialRead
serial_read s = cond (fits (pattern serial_form) s) (record { ok = true; serial = take 3 s ++ drop 4 s }) no_serial

abbrev pub no_account : AccountRead
no_account = record { ok = false; account = replicate 10 0 }

abbrev pub account_found : Option (List ℕ) → AccountRead
account_found o = record { ok = is_some o; account = unwrap_or o no_account.account }

unfoldable pub account_read : List ℕ → AccountRead
account_read s = cond (good_account s) (record { ok = true; account = s }) no_account

abbrev pub no_row : RowRead
no_row = record { ok = false; row = replicate row_length 0 }

abbrev pub row_found : Option (List ℕ) → RowRead
row_found o = record { ok = is_some o; row = unwrap_or o no_row.row }

unfoldable pub row_read : List ℕ → RowRead
row_read s = cond (good_row s) (record { ok = true; row = s }) no_row
