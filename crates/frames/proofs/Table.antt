-- The frame that sets a table, character by character, and its length. Assumes nothing.
use mathlib.Core.Path.{◌≡◌, ap, ◌∙◌}
use mathlib.Core.List.{List, [], ◌∷◌, ◌++◌, append_assoc}
use Prim.Native.Nat.{ℕ, suc, ◌+◌, ◌/◌, ◌%◌}
use lib.ListN.{length, length-append}
use Rattle.line.specs.Checksum.{bcc_of}
use Rattle.text.specs.Decimal.{decimal}
use Rattle.text.specs.Layout.{layout_text}
use Rattle.values.specs.Edition.{row_length}
use Rattle.values.specs.Texts.{table_text}
use Rattle.frames.specs.Frames.{closed, frame_of}
use Rattle.frames.specs.Commands.{W1, bracketed, set_table}

-- W1 STX Z(xx;row) ETX: what the BCC is taken over
unfoldable pub table_body : ℕ → List ℕ → List ℕ
table_body n row = 87 ∷ 49 ∷ 2 ∷ 90 ∷ 40 ∷ (table_text n ++ (59 ∷ (row ++ (41 ∷ 3 ∷ []))))

body_is : (n : ℕ) (row : List ℕ) → (W1 ++ (2 ∷ set_table n row)) ++ (3 ∷ []) ≡ table_body n row
unfolding set_table bracketed table_body table_text layout_text decimal
body_is n row =
    ap (λ (l : List ℕ). 87 ∷ 49 ∷ 2 ∷ 90 ∷ 40 ∷ (48 + n / 10 % 10) ∷ (48 + n % 10) ∷ 59 ∷ l) (append_assoc row (41 ∷ []) (3 ∷ []))

-- the frame of a table: SOH, the body, and its BCC
pub table-frame : (n : ℕ) (row : List ℕ) → frame_of W1 (set_table n row) ≡ 1 ∷ (table_body n row ++ (bcc_of (table_body n row) ∷ []))
unfolding frame_of closed
table-frame n row = ap (λ (b : List ℕ). 1 ∷ (b ++ (bcc_of b ∷ []))) (body_is n row)

pub length-body : (n : ℕ) (row : List ℕ) → length row ≡ row_length → length (table_body n row) ≡ 34
unfolding table_body table_text layout_text decimal
length-body n row h = rw (length-append row (41 ∷ 3 ∷ []), h)

-- 36 characters
pub length-table-frame : (n : ℕ) (row : List ℕ) → length row ≡ row_length → length (frame_of W1 (set_table n row)) ≡ 36
length-table-frame n row h =
    ap length (table-frame n row) ∙ ap suc (length-append (table_body n row) (bcc_of (table_body n row) ∷ [])) ∙ (rw (length-body n row h))
