-- Document 01, "The head": the data between STX and ETX of a stripped block, as a part of the caller's own bytes.
use Rattle.std.specs.Prelude.{◌≡◌, Bool, cond, not, ◌&&◌, List, ℕ, ◌+◌, ◌-◌, ◌≤◌, eqb, leb, length, take, drop, get_or, Result, Ok, Err}
use Rattle.std.specs.Borrow.{Bor}
use Rattle.line.specs.Controls.{STX, ETX}
use Rattle.line.specs.Runs.{every}
use Rattle.line.specs.Checksum.{bcc_of}
use Rattle.blocks.specs.declared.Refusal.{Refusal}
use Rattle.blocks.specs.Refusals.{number_of}

-- where a block's part lies
pub record PartAt : Type 0 where
  pub number : ℕ
  pub start : ℕ
  pub length : ℕ

-- a part starts behind STX
abbrev pub part_told : Result (Bor (List ℕ)) Refusal → PartAt
part_told (Ok part) = record { number = 1; start = 1; length = length part.now }
part_told (Err refusal) = record { number = number_of refusal; start = 0; length = 0 }

abbrev pub check_told : Result (Unit {0}) Refusal → ℕ
check_told (Ok _) = 1
check_told (Err refusal) = number_of refusal

unfoldable pub is_character : ℕ → Bool
is_character c = leb c 0x7F

unfoldable pub not_etx : ℕ → Bool
not_etx c = not (eqb c ETX)

-- what stands between the first character and the last two
unfoldable pub between : List ℕ → List ℕ
between s = take (length s - 3) (drop 1 s)

-- first STX, last but one ETX, no other ETX before it, none above 7F
unfoldable pub is_block : List ℕ → Bool
is_block s = (leb 3 (length s) && (eqb (get_or s 0 0) STX && eqb (get_or s (length s - 2) 0) ETX)) && (every not_etx (between s) && every is_character s)

-- the last character is the BCC, from the second character through that ETX
unfoldable pub bcc_fits : List ℕ → Bool
bcc_fits s = eqb (get_or s (length s - 1) 0) (bcc_of (take (length s - 2) (drop 1 s)))

-- 22, then 23, each with the empty part at the start; else the part
unfoldable pub part_of : List ℕ → PartAt
part_of s =
    cond (is_block s)
    (cond (bcc_fits s) (record { number = 1; start = 1; length = length s - 3 }) (record { number = 23; start = 0; length = 0 }))
    (record { number = 22; start = 0; length = 0 })

-- a part lies within the bytes that it was found in
pub record Within (s : List ℕ) (p : PartAt) : Type 0 where
  pub is : p ≡ part_of s
  pub inside : p.start + p.length ≤ length s

-- a character that may stand in a block's content: any but ETX
unfoldable pub is_content : ℕ → Bool
is_content c = leb c 0x7F && not (eqb c ETX)
