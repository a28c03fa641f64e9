-- Two wrong answers for each call of `line` and `text`.
use Rattle.std.specs.Prelude.{true, false, List, [], ◌∷◌, map, ◌++◌, ℕ, ◌+◌, length, get_or, take, drop}
use Rattle.line.specs.Controls.{ETX}
use Rattle.line.specs.Quoted.{chars}
use Rattle.line.specs.Characters.{damaged_at, seven, sent, undamaged_all}
use Rattle.line.specs.Checksum.{bcc_of}
use Rattle.line.specs.Runs.{every}
use Rattle.text.specs.Writing.{stored}
use Rattle.text.specs.Classes.{between, is_digit, same_text}
use Rattle.text.specs.Layout.{agrees, fits}
use Rattle.mistakes.specs.RuledOut.{RuledOut}

-- of `line`
pub record Line : Type 0 where
  -- an even byte called damaged; a parity that leaves the top bit out
  pub damaged : RuledOut (damaged_at 65) true × RuledOut (damaged_at 193) false
  -- the parity bit kept; 0 for a damaged byte
  pub character : RuledOut (seven 225) 225 × RuledOut (seven 193) 0
  -- no parity; odd parity
  pub wire : RuledOut (sent 97) 97 × RuledOut (sent 65) 193
  -- a sum; the exclusive-or of all eight bits
  pub bcc : RuledOut (bcc_of (chars "B0" ++ ETX ∷ [])) 117 × RuledOut (bcc_of (225 ∷ 3 ∷ [])) 226
  -- the first byte looked at alone; an empty run called damaged
  pub undamaged : RuledOut (undamaged_all (0x41 ∷ 0xC1 ∷ [])) true × RuledOut (undamaged_all []) false
  -- the first byte changed alone; the first byte's wire byte in every place
  pub put_parity : RuledOut (map sent (chars "ab")) (0xE1 ∷ 0x62 ∷ []) × RuledOut (map sent (chars "ab")) (0xE1 ∷ 0xE1 ∷ [])

-- of `text`
pub record Text : Type 0 where
  -- the text's length for the place after it; the text at the front, whatever the place
  pub put : RuledOut (1 + length {A = ℕ} (chars "AB")) 2 × RuledOut (stored (0 ∷ 0 ∷ 0 ∷ 0 ∷ []) 1 (chars "AB")) (chars "AB" ++ 0 ∷ 0 ∷ [])
  -- one character too early; the whole text past its end
  pub rest : RuledOut {A = List ℕ} (drop 2 (chars "ABC")) (chars "BC") × RuledOut {A = List ℕ} (drop 4 (chars "A")) (chars "A")
  -- one character too few; filled up with zeros
  pub first : RuledOut {A = List ℕ} (take 2 (chars "ABC")) (chars "A") × RuledOut {A = List ℕ} (take 2 (chars "A")) (chars "A" ++ 0 ∷ [])
  -- places counted from 1; the last character past the end
  pub at : RuledOut {A = ℕ} (get_or (chars "AB") 1 0) 65 × RuledOut {A = ℕ} (get_or (chars "A") 3 0) 65
  -- compared up to the shorter one's end; the first character compared alone
  pub same : RuledOut (same_text (chars "AB") (chars "A")) true × RuledOut (same_text (chars "AB") (chars "AC")) true
  -- the first character looked at alone; the upper bound left out
  pub all_between : RuledOut (every (between 49 52) (chars "15")) true × RuledOut (every (between 49 52) (chars "4")) false
  -- ':' as a digit; '9' as none
  pub wrong_is_digit : RuledOut (is_digit 58) true × RuledOut (is_digit 57) false
  -- '#' as itself; a digit for any character
  pub agree : RuledOut (agrees 35 35) true × RuledOut (agrees 45 48) true
  -- a text that is too short; a text that is too long
  pub has_form : RuledOut (fits (chars "##") (chars "1")) true × RuledOut (fits (chars "##") (chars "123")) true
