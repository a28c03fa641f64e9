-- How a line is changed into its frame: column by column, and the BCC by what the two fixed parts differ in.
use Rattle.std.specs.Prelude.{List, [], ◌∷◌, ◌++◌, ℕ, zero, suc, ◌*◌, get_or, take, drop, replicate}
use Rattle.std.specs.Int.Bits.{bit_xor}
use Rattle.line.specs.Quoted.{char, chars}
use Rattle.line.specs.Controls.{SOH, STX, ETX, LF}
use Rattle.line.specs.Characters.{sent}
use Rattle.line.specs.Checksum.{bcc_of}
use Rattle.values.specs.Edition.{row_length}

-- the line of a table, and the frame that sets it, with LF in the place of the BCC
unfoldable pub line_form : List ℕ
line_form = chars "131.0.00(" ++ (replicate row_length (char "1") ++ chars ")\r\n")

unfoldable pub frame_form : List ℕ
frame_form = SOH ∷ (chars "W1" ++ (STX ∷ (chars "Z(00;" ++ (replicate row_length (char "1") ++ (char ")" ∷ ETX ∷ LF ∷ [])))))

-- in which bits two texts differ, column by column
unfoldable pub differing : List ℕ → List ℕ → List ℕ
differing [] t = []
differing (c ∷ s) [] = []
differing (c ∷ s) (d ∷ t) = bit_xor c d ∷ differing s t

-- where both are fixed; 0 where the frame has the line's
unfoldable pub change : List ℕ
unfolding differing line_form frame_form
change = differing line_form frame_form

-- the first n wire bytes
unfoldable pub changed_to : List ℕ → ℕ → List ℕ
changed_to s zero = []
changed_to s (suc n) = changed_to s n ++ (sent (bit_xor (get_or s n 0) (get_or change n 0)) ∷ [])

-- all 36, the last of them the BCC
unfoldable pub changed_line : List ℕ → List ℕ
changed_line s = changed_to s 35 ++ (sent (bit_xor (bcc_of (take 33 s)) 44) ∷ [])

-- n lines
unfoldable pub changed_lines : List ℕ → ℕ → List ℕ
changed_lines s zero = []
changed_lines s (suc n) = changed_lines s n ++ changed_line (drop (36 * n) s)
