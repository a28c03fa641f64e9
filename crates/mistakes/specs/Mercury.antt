-- Two wrong answers for each call of the Mercury family.
use Rattle.std.specs.Prelude.{Some, None, Ok, Err, true, List, [], ◌∷◌, ◌++◌, ℕ, get_or, take}
use Rattle.numerals.specs.declared.Shown.{Shown}
use Rattle.crc.specs.Crc.{crc_of, checks}
use Rattle.mercury.specs.declared.answering.Energy.{Energy}
use Rattle.mercury.specs.declared.answering.Refusal.{Refusal}
use Rattle.mercury.specs.declared.answering.Refusal.TheVariants.{Status, WrongLength, WrongCrc, OtherAddress}
use Rattle.mercury.specs.Asking.{Asked, good_fields, request_of, Asks}
use Rattle.mercury.specs.Answering.{Quantity, read_of, answer_number, answer_code, answer_of, status_of}
use Rattle.mercuryshow.specs.Shown.{Shows}
use Rattle.mistakes.specs.RuledOut.{RuledOut}

-- room for a request
abbrev pub six : List ℕ
six = 0 ∷ 0 ∷ 0 ∷ 0 ∷ 0 ∷ 0 ∷ []

-- the request for January over all tariffs, of the meter 80 hex
unfoldable pub january : List ℕ
january = request_of 0x80 3 1 0

-- of `crc`
pub record Crc : Type 0 where
  -- a register that starts with zeros; its two bytes the other way round
  pub crc : RuledOut (crc_of (0x00 ∷ 0x00 ∷ [])) 0 × RuledOut (crc_of (0x22 ∷ 0x08 ∷ 0x18 ∷ [])) 0xD600
  -- the high byte first; a message that has no room for a CRC
  pub check : RuledOut (checks (0x22 ∷ 0x08 ∷ 0x18 ∷ 0x00 ∷ 0xD6 ∷ [])) true × RuledOut (checks (0xFF ∷ [])) true

-- of `mercury::asking`
pub record Asking : Type 0 where
  -- a month with array 4; a refusal that writes the address
  pub ask : ((after : List ℕ) → Asks six (good_fields 4 1 0) (request_of 1 4 1 0) (record { number = 1; length = 6 }) after → ⊥)
      × ((r : Asked) → Asks six (good_fields 6 0 0) (request_of 1 6 0 0) r (1 ∷ 0 ∷ 0 ∷ 0 ∷ 0 ∷ 0 ∷ []) → ⊥)
  -- the CRC's bytes the other way about
  pub sends-the-high-byte-first : (r : Asked) → Asks six (good_fields 3 1 0) january r (take 4 january ++ get_or january 5 0 ∷ get_or january 4 0 ∷ []) → ⊥

-- active energy that came in, a quantity of what went out, and reactive energy that came in
abbrev pub energy : ℕ → Quantity → ℕ → Energy
energy a q r = record { active_in = Some a; active_out = q; reactive_in = Some r; reactive_out = Some 0 }

-- of `mercury::answering`
pub record Answering : Type 0 where
  -- the address before the CRC; a status of code 0 as data
  pub read : RuledOut (read_of 0x81 (0x80 ∷ 0x05 ∷ 0x00 ∷ 0x00 ∷ [])) (Err OtherAddress)
      × RuledOut (read_of 0x80 (status_of 0x80 0)) (Ok (record { active_in = Some 0; active_out = Some 0; reactive_in = Some 0; reactive_out = Some 0 }))
  -- by the byte behind the address and not by the length: data of 65536 taken for the status 1
  pub takes-status-0-for-data : RuledOut (read_of 0x80 (answer_of 0x80 (energy 65536 None 1000))) (Err (Status 1))
  -- FF FF FF FF as a number
  pub measures-all-ones : RuledOut (read_of 0x80 (answer_of 0x80 (energy 2672 None 1000))) (Ok (energy 2672 (Some 0xFFFFFFFF) 1000))
  -- the bytes from the highest down: 00 00 70 0A as 700A hex, 00 00 E8 03 as E803
  pub numbers-in-plain-order : RuledOut (read_of 0x80 (answer_of 0x80 (energy 2672 None 1000))) (Ok (energy 0x700A None 0xE803))
  -- a status as done; the number of the address for the CRC
  pub wrong_number_of : RuledOut (answer_number (Err (Status 0))) 1 × RuledOut (answer_number (Err WrongCrc)) 52
  -- no code; a refusal's number for a code
  pub code_of : RuledOut (answer_code (Err (Status 5))) 0 × RuledOut (answer_code (Err WrongLength)) 50

-- of `mercuryshow`
pub record Showing : Type 0 where
  -- an empty capture as done; nothing shown of it
  pub show : ((after : List ℕ) → Shows [] [] (record { outcome = Ok (tt {0}); length = 0 }) after → ⊥) × ((r : Shown Refusal) → Shows [] [] r [] → ⊥)
