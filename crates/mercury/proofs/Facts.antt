-- Each fact is computed. Assumes nothing.
use mathlib.Core.Path.{refl}
use Rattle.crc.specs.Crc.{bit_out, out, joined, crc_from, crc_of, with_crc, checks}
use Rattle.mercury.specs.Asking.{request_of}
use Rattle.mercury.specs.Answering.{number_from, quantity_of, quantity_at, energy_of, good_length, read_of, number_of, quantity_bytes, answer_of, status_of}
use Rattle.mercury.specs.Facts.{Facts}

pub facts : Facts
unfolding bit_out out joined crc_from crc_of with_crc checks request_of number_from quantity_of quantity_at energy_of good_length read_of number_of quantity_bytes answer_of status_of
facts =
    record {
      request-22 = refl;
      answer-22 = refl;
      test-00 = refl;
      test-01 = refl;
      asks-january = refl;
      answers-january = refl;
      reads-january = refl;
      number-2672 = refl;
      not-measured = refl;
      status-zero = refl;
      another = refl;
      damaged = refl;
    }
