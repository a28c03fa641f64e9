-- What is told of an answer by the library's choices is what is told of it case by case. Assumes nothing.
use mathlib.Core.Path.{◌≡◌, refl}
use Rattle.std.specs.Prelude.{Some, None, Ok, Err, unwrap_or}
use Rattle.std.specs.Result.{result_unwrap_or}
use Rattle.mercury.specs.declared.answering.Energy.{Energy}
use Rattle.mercury.specs.declared.answering.Refusal.TheVariants.{Status, WrongLength, WrongCrc, OtherAddress}
use Rattle.mercury.specs.Answering.{Quantity, Answer, answer_number, answer_code}
use Rattle.mercurylink.specs.Telling.{Told, flag_of, count_of, told_energy, told_of}

counted : (q : Quantity) → unwrap_or q 0 ≡ count_of q
unfolding count_of
counted (Some n) = refl
counted None = refl

-- no quantity was measured
abbrev pub nothing : Energy
nothing = record { active_in = None; active_out = None; reactive_in = None; reactive_out = None }

-- the number and the code of an answer, and the quantities of its energy or of none
abbrev pub told_by : Answer → Energy → Told
told_by a e =
    record {
      number = answer_number a;
      status = answer_code a;
      measured = (told_energy e).measured;
      active_in = unwrap_or e.active_in 0;
      active_out = unwrap_or e.active_out 0;
      reactive_in = unwrap_or e.reactive_in 0;
      reactive_out = unwrap_or e.reactive_out 0;
    }

pub tells : (a : Answer) → told_by a (result_unwrap_or a nothing) ≡ told_of a
unfolding told_of told_energy flag_of answer_number answer_code
tells (Ok e) = rw (counted e.active_in, counted e.active_out, counted e.reactive_in, counted e.reactive_out)
tells (Err WrongLength) = refl
tells (Err WrongCrc) = refl
tells (Err OtherAddress) = refl
tells (Err (Status code)) = refl
