-- Two wrong answers for each call of `damage`, `blocks`, `reading`, `reader` and `finding`, and for the values that `headlink` hands to C.
use Rattle.std.specs.Prelude.{◌≡◌, List, [], ◌∷◌, ◌++◌, ℕ, take, drop, replicate}
use Rattle.line.specs.Controls.{ETX, STX}
use Rattle.line.specs.Quoted.{chars}
use Rattle.clock.specs.Seconds.{date_of, time_of}
use Rattle.values.specs.Texts.{serial_text, date_text, time_text, energy_text}
use Rattle.values.specs.Reading.{date_read, time_read, energy_read}
use Rattle.values.specs.Serials.{serial_read, account_read, row_read}
use Rattle.frames.specs.Frames.{block_of}
use Rattle.datasets.specs.Sets.{data_set}
use Rattle.damage.specs.First.{first_damaged}
use Rattle.blocks.specs.declared.Refusal.TheVariants.{WrongBcc, Damaged, Short}
use Rattle.blocks.specs.Refusals.{number_of, place_of}
use Rattle.blocks.specs.Stripping.{Stripped, Strips}
use Rattle.blocks.specs.Parts.{part_of, Within}
use Rattle.reading.specs.Sets.{end_at, malformed_at, set_at, set_read}
use Rattle.reader.specs.declared.Reader.{Reader}
use Rattle.reader.specs.Walking.{yields, moved, set_after}
use Rattle.finding.specs.Finding.{matched_at, lookup}
use Rattle.headlink.specs.Telling.{value_number, Tells, eqm_told}
use Rattle.mistakes.specs.RuledOut.{RuledOut}
use Rattle.mistakes.specs.Samples.{serial, account, twos}

-- STX H ETX BCC
unfoldable pub block : List ℕ
block = block_of (chars "H")

-- the same with a wrong BCC
unfoldable pub mis_summed : List ℕ
mis_summed = STX ∷ chars "H" ++ ETX ∷ 0 ∷ []

-- what `part` hands back
abbrev pub part_in : List ℕ → List ℕ
part_in s = take (part_of s).length (drop (part_of s).start s)

-- A(1) CR LF B(22) CR LF ! CR LF: sets at 0 and 6, the end at 13
unfoldable pub two_sets : List ℕ
two_sets = data_set (chars "A") (chars "1") ++ (data_set (chars "B") (chars "22") ++ (chars "!\r\n"))

-- of `damage`
pub record Damage : Type 0 where
  -- the last damaged byte of a run; the number of damaged ones
  pub wrong_first_damaged : RuledOut (first_damaged (0x41 ∷ 0xC1 ∷ 0x42 ∷ 0xC1 ∷ [])) 3 × RuledOut (first_damaged (0x41 ∷ 0xC1 ∷ 0x42 ∷ 0xC1 ∷ [])) 2

-- of `blocks`
pub record Blocks : Type 0 where
  -- a damaged byte stripped; the bytes before it written, and then 24
  pub strip : ((after : List ℕ) → Strips (0xC1 ∷ []) (0 ∷ []) (record { number = 1; length = 1; place = 0 }) after → ⊥)
      × ((r : Stripped) → Strips (0x41 ∷ 0xC1 ∷ []) (0 ∷ 0 ∷ []) r (chars "A" ++ 0 ∷ []) → ⊥)
  -- the place of the last damaged byte; no place
  pub strip-place : ((after : List ℕ) → Strips (0x41 ∷ 0xC1 ∷ 0xC1 ∷ []) (0 ∷ 0 ∷ 0 ∷ []) (record { number = 24; length = 0; place = 2 }) after → ⊥)
      × ((after : List ℕ) → Strips (0x41 ∷ 0xC1 ∷ 0xC1 ∷ []) (0 ∷ 0 ∷ 0 ∷ []) (record { number = 24; length = 0; place = 0 }) after → ⊥)
  -- the ETX in the part; a BCC with its top bit set
  pub find : (Within block (record { number = 1; start = 1; length = 2 }) → ⊥) × (Within (STX ∷ chars "H" ++ ETX ∷ 203 ∷ []) (record { number = 1; start = 1; length = 1 }) → ⊥)
  -- no BCC checked; a block without ETX called one with a wrong BCC
  pub part_check : RuledOut (part_of mis_summed).number 1 × RuledOut (part_of (STX ∷ chars "HHK")).number 23
  -- 23 for a BCC with its top bit set
  pub calls-a-high-byte-a-wrong-bcc : RuledOut (part_of (STX ∷ chars "H" ++ ETX ∷ 203 ∷ [])).number 23
  -- start and length changed about
  pub swaps-start-and-length : RuledOut (part_of (block_of (chars "HH"))) (record { number = 1; start = 2; length = 1 })
  -- the ETX in the part; the data of a block with a wrong BCC
  pub part : RuledOut (part_in block) (chars "H" ++ ETX ∷ []) × RuledOut (part_in mis_summed) (chars "H")

-- of `blocks::Refusal`
pub record Refusals : Type 0 where
  -- 22 for a wrong BCC; 24 for too short a buffer
  pub number : RuledOut (number_of WrongBcc) 22 × RuledOut (number_of Short) 24
  -- no place; the place after it
  pub place : RuledOut (place_of (Damaged 2)) 0 × RuledOut (place_of (Damaged 2)) 3

-- of `reading`
pub record Sets : Type 0 where
  -- on at the end; the next line after a set that does not close
  pub next_set : RuledOut (set_read two_sets 13) (end_at 16) × RuledOut (set_read (chars "A(1\r\n") 0) (record { number = 25; address_length = 0; value_length = 0; next = 5; place = 0 })
  -- back to the start at the end
  pub leaves-the-end : RuledOut (set_read two_sets 13) (end_at 0)
  -- past all that follows a malformed set
  pub skips-a-bad-set : RuledOut (set_read (chars "A(1\r\n") 0) (record { number = 25; address_length = 0; value_length = 0; next = 4096; place = 0 })
  -- '+' in an address, and no '*'
  pub takes-no-star : RuledOut (set_read (data_set (chars "+") (chars "1")) 0) (set_at 0 1 1) × RuledOut (set_read (data_set (chars "*") (chars "1")) 0) (malformed_at 0)

-- of `reader::Reader`
pub record Readers : Type 0 where
  -- the first set again; a place further at the end
  pub next : ((r : Reader) → r.«data».now ≡ two_sets → r.at ≡ 6 → RuledOut (yields r) (set_at 0 1 1))
      × ((r : Reader) → r.«data».now ≡ two_sets → r.at ≡ 13 → RuledOut (moved r) (record { «data» = r.«data»; at = 16 }))

-- of `reader`
pub record Walks : Type 0 where
  -- the set counted without its line end; a value of 33 characters
  pub wrong_read_at : RuledOut (set_read two_sets 0) (record { number = 1; address_length = 1; value_length = 1; next = 4; place = 0 })
      × RuledOut (set_read (data_set (chars "A") (replicate 33 49)) 0) (set_at 0 1 33)
  -- the first set again; past the last line to the end of the data
  pub wrong_set_after : RuledOut (set_after two_sets 1) (record { start = 0; set = set_at 0 1 1 }) × RuledOut (set_after two_sets 3) (record { start = 16; set = end_at 16 })

-- A(1) CR LF A(22) CR LF: the same address at 0 and 6
unfoldable pub same_twice : List ℕ
same_twice = data_set (chars "A") (chars "1") ++ data_set (chars "A") (chars "22")

-- A CR LF B(1) CR LF: a malformed set before a good one
unfoldable pub bad_first : List ℕ
bad_first = chars "A\r\n" ++ data_set (chars "B") (chars "1")

-- of `finding`
pub record Finds : Type 0 where
  -- the position counted from 0; the last of two matches
  pub find : RuledOut (lookup two_sets (chars "B")) (matched_at 1 6 (set_at 6 1 2)) × RuledOut (lookup same_twice (chars "A")) (matched_at 2 6 (set_at 6 1 2))
  -- a set whose address only begins with what is asked for; one whose address is only the beginning of it
  pub find-compared : RuledOut (lookup (data_set (chars "AB") (chars "1")) (chars "A")) (matched_at 1 0 (set_at 0 2 1)) × RuledOut (lookup two_sets (chars "AB")) (matched_at 1 0 (set_at 0 1 1))
  -- on behind a malformed set; 27 in place of 25
  pub find-stopped : RuledOut (lookup bad_first (chars "B")).number 1 × RuledOut (lookup bad_first (chars "B")).number 27

-- of `headlink::fields`
pub record Fields : Type 0 where
  -- 1 for a serial without its space; ten digits in nine bytes
  pub dirgemist_head_value_serial : ((after : List ℕ) → Tells (replicate 10 9) 10 (serial_read serial).ok (serial_read serial).serial 1 after → ⊥)
      × ((after : List ℕ) → Tells (replicate 9 9) 10 (serial_read (serial_text serial)).ok (serial_read (serial_text serial)).serial 1 after → ⊥)
  -- a hyphen let through; a refused account in the buffer
  pub dirgemist_head_value_account : ((after : List ℕ) → Tells (replicate 10 9) 10 (account_read (replicate 10 45)).ok (account_read (replicate 10 45)).account 1 after → ⊥)
      × ((r : ℕ) → Tells (replicate 10 9) 10 (account_read (replicate 10 45)).ok (account_read (replicate 10 45)).account r (replicate 10 45) → ⊥)
  -- zeros in a buffer that is too short; the bytes past the row cleared
  pub dirgemist_head_value_row : ((r : ℕ) → Tells (replicate 23 9) 24 (row_read twos).ok (row_read twos).row r (replicate 23 0) → ⊥)
      × ((r : ℕ) → Tells (replicate 25 9) 24 (row_read twos).ok (row_read twos).row r (twos ++ (0 ∷ [])) → ⊥)
  -- 01-02-29 taken; its numbers handed out all the same
  pub dirgemist_head_value_date : RuledOut (value_number (date_read (date_text (date_of 2001 2 29))).ok) 1 × RuledOut (date_read (date_text (date_of 2001 2 29))).date (date_of 2001 2 29)
  -- month and day changed about
  pub swaps-month-and-day : RuledOut (date_read (date_text (date_of 2001 2 3))).date (date_of 2001 3 2)
  -- 24:00:00 taken; its numbers handed out all the same
  pub dirgemist_head_value_time : RuledOut (value_number (time_read (time_text (time_of 24 0 0))).ok) 1 × RuledOut (time_read (time_text (time_of 24 0 0))).time (time_of 24 0 0)
  -- 25 for a good counter; its kWh and no decimals
  pub dirgemist_head_value_counter : RuledOut (value_number (energy_read 0 (energy_text 0 1500)).ok) 25 × RuledOut (energy_read 0 (energy_text 0 1500)).number 1
  -- [10]: document 01's family read as an EQM one; 25 for decimals that no meter has
  pub dirgemist_head_value_eqm : RuledOut (eqm_told 0 (energy_text 0 1500)) (record { number = 1; count = 1500 }) × RuledOut (eqm_told 1 []) (record { number = 25; count = 0 })
