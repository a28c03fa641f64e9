-- `text::put` meets its contract: what is put in so far is the text as far as it was gone through. Assumes nothing.
use mathlib.Core.Path.{◌≡◌}
use lib.ListN.{length, take}
use Rattle.text.specs.Writing.{stored}
use Rattle.text.proofs.put.Given as goal

abbrev pub invariant-loop-i : goal.invariant-loop-i
invariant-loop-i l = (length l.buf ≡ length l.initial.buf) × (l.buf ≡ stored l.initial.buf l.at (take l.i l.s))
