-- Document 02, request 9: what is read of an answer, and the answer that a meter makes.
use Rattle.std.specs.Prelude.{Option, Some, None, Result, Ok, Err, Bool, true, cond, ◌&&◌, ◌||◌, List, [], ◌∷◌, ◌++◌, ℕ, ◌+◌, ◌*◌, ◌/◌, ◌%◌, eqb, ltb, length, get_or}
use Rattle.crc.specs.Crc.{with_crc, checks}
use Rattle.mercury.specs.declared.answering.Energy.{Energy}
use Rattle.mercury.specs.declared.answering.Refusal.{Refusal}
use Rattle.mercury.specs.declared.answering.Refusal.TheVariants.{WrongLength, WrongCrc, OtherAddress, Status}

-- a quantity of energy: none where it was not measured
abbrev pub Quantity : Type 0
Quantity = Option ℕ

-- what is read of an answer: energy, or why there is none
abbrev pub Answer : Type 0
Answer = Result Energy Refusal

-- four bytes in the order second, first, fourth, third, first being highest
unfoldable pub number_from : ℕ → ℕ → ℕ → ℕ → ℕ
number_from second first fourth third = first * 16777216 + second * 65536 + third * 256 + fourth

-- FF FF FF FF means not measured, never a number
unfoldable pub quantity_of : ℕ → Quantity
quantity_of n = cond (eqb n 0xFFFFFFFF) None (Some n)

unfoldable pub quantity_at : List ℕ → ℕ → Quantity
quantity_at s at = quantity_of (number_from (get_or s at 0) (get_or s (at + 1) 0) (get_or s (at + 2) 0) (get_or s (at + 3) 0))

-- four quantities, behind the address
unfoldable pub energy_of : List ℕ → Energy
energy_of s =
    record {
      active_in = quantity_at s 1;
      active_out = quantity_at s 5;
      reactive_in = quantity_at s 9;
      reactive_out = quantity_at s 13;
    }

-- the length of a data answer or of a status answer
unfoldable pub good_length : ℕ → Bool
good_length n = eqb n 19 || eqb n 4

-- 50 length neither that of a data nor of a status answer, 51 CRC, 52 address not ours, 53 status
unfoldable pub read_of : ℕ → List ℕ → Answer
read_of address s =
    cond (good_length (length s))
    (cond (checks s)
    (cond (eqb (get_or s 0 0) address) (cond (eqb (length s) 4) (Err (Status (get_or s 1 0))) (Ok (energy_of s))) (Err OtherAddress))
    (Err WrongCrc))
    (Err WrongLength)

-- the number of each
unfoldable pub answer_number : Answer → ℕ
answer_number (Ok e) = 1
answer_number (Err WrongLength) = 50
answer_number (Err WrongCrc) = 51
answer_number (Err OtherAddress) = 52
answer_number (Err (Status code)) = 53

-- the code of a status; 0 where there is none
unfoldable pub answer_code : Answer → ℕ
answer_code (Err (Status code)) = code
answer_code (Ok e) = 0
answer_code (Err WrongLength) = 0
answer_code (Err WrongCrc) = 0
answer_code (Err OtherAddress) = 0

-- what stands for a quantity in an answer
unfoldable pub number_of : Quantity → ℕ
number_of None = 0xFFFFFFFF
number_of (Some n) = n

unfoldable pub quantity_bytes : Quantity → List ℕ
quantity_bytes q =
    number_of q / 65536 % 256 ∷ number_of q / 16777216 ∷ number_of q % 256 ∷ number_of q / 256 % 256 ∷ []

-- the answer with four quantities
unfoldable pub answer_of : ℕ → Energy → List ℕ
answer_of address e =
    with_crc
    (address ∷ (quantity_bytes e.active_in ++ (quantity_bytes e.active_out ++ (quantity_bytes e.reactive_in ++ quantity_bytes e.reactive_out))))

-- and the one with a status
unfoldable pub status_of : ℕ → ℕ → List ℕ
status_of address code = with_crc (address ∷ code ∷ [])

-- a quantity that a meter can have measured
unfoldable pub good_quantity : Quantity → Bool
good_quantity None = true
good_quantity (Some n) = ltb n 0xFFFFFFFF

unfoldable pub good_energy : Energy → Bool
good_energy e =
    (good_quantity e.active_in && good_quantity e.active_out) && (good_quantity e.reactive_in && good_quantity e.reactive_out)
