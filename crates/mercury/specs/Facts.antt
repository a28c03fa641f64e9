-- The examples of the description (source document 001), in one statement.
use Rattle.std.specs.Prelude.{◌≡◌, Some, None, Ok, Err, [], ◌∷◌, take}
use Rattle.crc.specs.Crc.{with_crc}
use Rattle.mercury.specs.declared.answering.Energy.{Energy}
use Rattle.mercury.specs.declared.answering.Refusal.TheVariants.{Status, WrongCrc, OtherAddress}
use Rattle.mercury.specs.Asking.{request_of}
use Rattle.mercury.specs.Answering.{quantity_at, read_of, answer_of, status_of}

-- the answer for January of the meter 80 hex: active energy in, none measured out, reactive in and out
abbrev pub january : Energy
january = record { active_in = Some 2672; active_out = None; reactive_in = Some 1000; reactive_out = Some 0 }

pub record Facts : Type 0 where
  -- 1.2: a request and its answer
  pub request-22 : with_crc (0x22 ∷ 0x08 ∷ 0x18 ∷ []) ≡ 0x22 ∷ 0x08 ∷ 0x18 ∷ 0xD6 ∷ 0x00 ∷ []
  pub answer-22 : with_crc (0x22 ∷ 0x00 ∷ 0x08 ∷ []) ≡ 0x22 ∷ 0x00 ∷ 0x08 ∷ 0xD0 ∷ 0x0C ∷ []
  -- appendix B: the line to the addresses 00 and 01 is tested
  pub test-00 : with_crc (0x00 ∷ 0x00 ∷ []) ≡ 0x00 ∷ 0x00 ∷ 0x01 ∷ 0xB0 ∷ []
  pub test-01 : with_crc (0x01 ∷ 0x00 ∷ []) ≡ 0x01 ∷ 0x00 ∷ 0x00 ∷ 0x20 ∷ []
  -- 5.17.1: the request for January over all tariffs, and the bytes of its answer
  pub asks-january : take 4 (request_of 0x80 3 1 0) ≡ 0x80 ∷ 0x05 ∷ 0x31 ∷ 0x00 ∷ []
  pub answers-january : take 17 (answer_of 0x80 january) ≡ 0x80 ∷ 0x00 ∷ 0x00 ∷ 0x70 ∷ 0x0A ∷ 0xFF ∷ 0xFF ∷ 0xFF ∷ 0xFF ∷ 0x00 ∷ 0x00 ∷ 0xE8 ∷ 0x03 ∷ 0x00 ∷ 0x00 ∷ 0x00 ∷ 0x00 ∷ []
  pub reads-january : read_of 0x80 (answer_of 0x80 january) ≡ Ok january
  -- request 9: 00 00 70 0A is 2672, FF FF FF FF is not measured
  pub number-2672 : quantity_at (0x00 ∷ 0x00 ∷ 0x70 ∷ 0x0A ∷ []) 0 ≡ Some 2672
  pub not-measured : quantity_at (0xFF ∷ 0xFF ∷ 0xFF ∷ 0xFF ∷ []) 0 ≡ None
  -- a status of code 0 is a status; another meter's answer is refused, but only once its CRC fits
  pub status-zero : read_of 0x80 (status_of 0x80 0) ≡ Err (Status 0)
  pub another : read_of 0x81 (status_of 0x80 5) ≡ Err OtherAddress
  pub damaged : read_of 0x81 (0x80 ∷ 0x05 ∷ 0x00 ∷ 0x00 ∷ []) ≡ Err WrongCrc
