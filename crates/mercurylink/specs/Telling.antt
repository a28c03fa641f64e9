-- What C is told of an answer: for each of its cases the number, the code, and the quantities with a bit for each that was measured.
use Rattle.std.specs.Prelude.{Some, None, Ok, Err, ℕ}
use Rattle.std.specs.Int.Bits.{bit_or}
use Rattle.mercury.specs.declared.answering.Energy.{Energy}
use Rattle.mercury.specs.declared.answering.Refusal.TheVariants.{Status, WrongLength, WrongCrc, OtherAddress}
use Rattle.mercury.specs.Answering.{Quantity, Answer}

-- the number, the code of a status, which quantities were measured, and their numbers
pub record Told : Type 0 where
  pub number : ℕ
  pub status : ℕ
  pub measured : ℕ
  pub active_in : ℕ
  pub active_out : ℕ
  pub reactive_in : ℕ
  pub reactive_out : ℕ

-- the bit of a quantity that was measured
unfoldable pub flag_of : Quantity → ℕ → ℕ
flag_of (Some n) bit = bit
flag_of None bit = 0

-- its number; 0 where it was not measured
unfoldable pub count_of : Quantity → ℕ
count_of (Some n) = n
count_of None = 0

unfoldable pub told_energy : Energy → Told
told_energy e =
    record {
      number = 1;
      status = 0;
      measured = bit_or (bit_or (flag_of e.active_in 1) (flag_of e.active_out 2)) (bit_or (flag_of e.reactive_in 4) (flag_of e.reactive_out 8));
      active_in = count_of e.active_in;
      active_out = count_of e.active_out;
      reactive_in = count_of e.reactive_in;
      reactive_out = count_of e.reactive_out;
    }

-- a number and a code, and zeros where there is no data
abbrev pub told_bare : ℕ → ℕ → Told
told_bare number status = record { number = number; status = status; measured = 0; active_in = 0; active_out = 0; reactive_in = 0; reactive_out = 0 }

unfoldable pub told_of : Answer → Told
told_of (Ok e) = told_energy e
told_of (Err WrongLength) = told_bare 50 0
told_of (Err WrongCrc) = told_bare 51 0
told_of (Err OtherAddress) = told_bare 52 0
told_of (Err (Status code)) = told_bare 53 code
