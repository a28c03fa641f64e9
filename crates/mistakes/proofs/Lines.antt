-- The wrong answers for `line` and `text` are ruled out, by computing. Assumes nothing.
use mathlib.Core.Path.{refl}
use lib.Count.{ones}
use Rattle.line.specs.Characters.{damaged_at, seven, sent, undamaged_all}
use Rattle.line.specs.Checksum.{bcc_of}
use Rattle.line.specs.Runs.{every}
use Rattle.text.specs.Writing.{stored}
use Rattle.text.specs.Classes.{between, is_digit, matching, same_text}
use Rattle.text.specs.Layout.{agrees, fits}
use Rattle.mistakes.specs.Lines.{Line, Text}
use Rattle.mistakes.proofs.Differing.{number, flag, byte, long}

pub line : Line
unfolding ones damaged_at seven sent undamaged_all every bcc_of
line =
    record {
      damaged = (flag refl, flag refl);
      character = (number refl, number refl);
      wire = (number refl, number refl);
      bcc = (number refl, number refl);
      undamaged = (flag refl, flag refl);
      put_parity = (byte 1 refl, byte 1 refl);
    }

pub text : Text
unfolding stored every between is_digit matching same_text agrees fits
text =
    record {
      put = (number refl, byte 0 refl);
      rest = (byte 0 refl, byte 0 refl);
      first = (byte 1 refl, long refl);
      at = (number refl, number refl);
      same = (flag refl, flag refl);
      all_between = (flag refl, flag refl);
      wrong_is_digit = (flag refl, flag refl);
      agree = (flag refl, flag refl);
      has_form = (flag refl, flag refl);
    }
