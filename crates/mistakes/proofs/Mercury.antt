-- The wrong answers for the Mercury family are ruled out, by computing. Assumes nothing.
use mathlib.Core.Path.{refl}
use Prim.Native.Nat.{ℕ, suc}
use Rattle.text.specs.Writing.{holding}
use Rattle.text.specs.Decimal.{decimal}
use Rattle.numerals.specs.Numerals.{width_within, width_of, digits_of, number_line}
use Rattle.crc.specs.Crc.{bit_out, out, joined, crc_from, crc_of, with_crc, checks}
use Rattle.std.specs.Prelude.{Some, None, Ok, Err}
use Rattle.mercury.specs.Asking.{Asked, good_array, monthly, good_month, good_fields, request_of, asked_in, asked_into}
use Rattle.mercury.specs.Answering.{Quantity, Answer, number_from, quantity_of, quantity_at, energy_of, good_length, read_of, answer_number, answer_code, number_of, quantity_bytes, answer_of, status_of}
use Rattle.mercuryshow.specs.Shown.{answer_text, exchange_read}
use Rattle.mistakes.specs.Mercury.{january, Crc, Asking, Answering, Showing}
use Rattle.mistakes.proofs.Differing.{seen, number, flag, byte, long}

pub crc : Crc
unfolding bit_out out joined crc_from crc_of checks
crc = record { crc = (number refl, number refl); check = (flag refl, flag refl) }

pub asking : Asking
unfolding bit_out out joined crc_from crc_of with_crc holding good_array monthly good_month good_fields request_of asked_in asked_into january
asking =
    record {
      ask = (λ after s. seen (λ (r : Asked). r.number) refl s.answer, λ r s. byte 0 refl s.held);
      sends-the-high-byte-first = λ r s. byte 4 refl s.held;
    }

-- active energy, in and out, of an answer that has it
unfoldable measured : Quantity → ℕ
measured None = 0
measured (Some n) = suc n

unfoldable active_in : Answer → ℕ
active_in (Ok e) = measured e.active_in
active_in (Err refusal) = 0

unfoldable active_out : Answer → ℕ
active_out (Ok e) = measured e.active_out
active_out (Err refusal) = 0

pub answering : Answering
unfolding bit_out out joined crc_from crc_of with_crc checks number_from quantity_of quantity_at energy_of good_length read_of number_of quantity_bytes answer_of status_of answer_number answer_code measured active_in active_out
answering =
    record {
      read = (seen answer_number refl, seen answer_number refl);
      takes-status-0-for-data = seen answer_number refl;
      measures-all-ones = seen active_out refl;
      numbers-in-plain-order = seen active_in refl;
      wrong_number_of = (number refl, number refl);
      code_of = (number refl, number refl);
    }

pub showing : Showing
unfolding holding decimal width_within width_of digits_of number_line good_length read_of answer_number answer_text exchange_read
showing = record { show = (λ after s. number refl s.number, λ r s. long refl s.held) }
