-- One line of data at an address: the address and '(', a value, ')' CR LF.
use Rattle.std.specs.Prelude.{◌≡◌, Bool, true, false, ◌&&◌, List, ℕ, ◌+◌, ◌-◌, leb, length, take, drop, Option, Some, None}
use Rattle.std.specs.Borrow.{Bor}
use Rattle.line.specs.Quoted.{chars}
use Rattle.text.specs.Classes.{same_text}

-- it opens with the address and '(', and ends with ')' CR LF
unfoldable pub is_line : List ℕ → List ℕ → Bool
is_line opening s =
    leb (length opening + 3) (length s) && (same_text (take (length opening) s) opening && same_text (drop (length s - 3) s) (chars ")\r\n"))

-- what stands between
unfoldable pub value_in : List ℕ → List ℕ → List ℕ
value_in opening s = take (length s - (length opening + 3)) (drop (length opening) s)

-- the value of such a line; none of anything else
abbrev pub ReadsLine : List ℕ → List ℕ → Option (Bor (List ℕ)) → Type 0
ReadsLine opening s None = is_line opening s ≡ false
ReadsLine opening s (Some value) = (is_line opening s ≡ true) × (value.now ≡ value_in opening s)
