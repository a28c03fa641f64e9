-- From a reply to its data sets: each refusal is shown with its number, and what was stripped is the reply's characters. Assumes nothing.
use mathlib.Core.Path.{◌≡◌, refl, ap, ◌∙◌}
use mathlib.Core.Bool.{Bool, true, false, cond}
use mathlib.Core.List.{List, map}
use Prim.Native.Nat.{ℕ, ◌+◌, ◌≤◌}
use native.Mathlib.Nat.{zero-add}
use native.Mathlib.Omega.{arith}
use borrow.Author.Tests.{eq-eqb, ne_eqb}
use lib.Dec.{ltb}
use lib.ListN.{length, take, drop, replicate, length-map, length-drop, length-take}
use lib.Seq.{take_at}
use Rattle.line.specs.Characters.{seven, undamaged_all}
use Rattle.text.specs.Writing.{stored, holding}
use Rattle.text.proofs.Writing.{stored-holding}
use Rattle.numerals.specs.Numerals.{number_line}
use Rattle.numerals.proofs.Widths.{line-few}
use Rattle.blocks.specs.Stripping.{Stripped, stripped_by, stripped_of, stripped_into}
use Rattle.blocks.specs.Parts.{part_of}
use Rattle.showing.specs.Shown.{Shown, Readout, refusal_shown, block_shown, longest, reply_shown, block_place, reply_place, Shows}

-- a refusal from the front on
pub refusal-shows : (out : List ℕ) (n place : ℕ) (q : Shown) (after : List ℕ) → 42 ≤ length out
    → q ≡ record { number = n; length = 0 + length (number_line n place) } → after ≡ stored out 0 (number_line n place) → Shows (refusal_shown n place) out q after
unfolding refusal_shown
refusal-shows out n place q after room e w =
    rw e
    (record {
      number = refl;
      long = zero-add (length (number_line n place));
      held = w ∙ stored-holding out (number_line n place) (omega (arith, line-few n place));
    })

pub part-short : (n k : ℕ) (b part : List ℕ) → part ≡ take n (drop k b) → length part ≤ length b
part-short n k b part e = omega (arith, ap length e, length-take n (drop k b), length-drop k b)

-- whatever is to be shown of the data
module _ (shown : List ℕ → Readout) where
  module _ (b : List ℕ) (n : ℕ) (is : n ≡ (part_of b).number) where
    pub block_refused : (n ≡ 1 → ⊥) → block_shown shown b ≡ refusal_shown n 0
    unfolding block_shown
    block_refused h = rw (← is, ne_eqb n 1 h)

    pub block-shown : n ≡ 1 → (part : List ℕ) → part ≡ take (part_of b).length (drop (part_of b).start b) → block_shown shown b ≡ shown part
    unfolding block_shown
    block-shown h part e = rw (← is, eq-eqb n 1 h, e)

  module _ (reply : List ℕ) (r : Stripped) (is : r ≡ stripped_of reply (replicate longest 0)) where
    pub reply-refused : (r.number ≡ 1 → ⊥) → reply_shown shown reply ≡ refusal_shown r.number r.place
    unfolding reply_shown
    reply-refused h = rw (← is, ne_eqb r.number 1 h)

    pub reply-shown : r.number ≡ 1 → reply_shown shown reply ≡ block_shown shown (map seven reply)
    unfolding reply_shown
    reply-shown h = rw (← is, eq-eqb r.number 1 h)

-- and the place that a refusal is shown with
module _ (place : List ℕ → ℕ) where
  module _ (b : List ℕ) (n : ℕ) (is : n ≡ (part_of b).number) where
    pub block_unplaced : (n ≡ 1 → ⊥) → block_place place b ≡ 0
    unfolding block_place
    block_unplaced h = rw (← is, ne_eqb n 1 h)

    pub block-placed : n ≡ 1 → (part : List ℕ) → part ≡ take (part_of b).length (drop (part_of b).start b) → block_place place b ≡ place part
    unfolding block_place
    block-placed h part e = rw (← is, eq-eqb n 1 h, e)

  module _ (reply : List ℕ) (r : Stripped) (is : r ≡ stripped_of reply (replicate longest 0)) where
    pub reply_unplaced : (r.number ≡ 1 → ⊥) → reply_place place reply ≡ r.place
    unfolding reply_place
    reply_unplaced h = rw (← is, ne_eqb r.number 1 h)

    pub reply-placed : r.number ≡ 1 → reply_place place reply ≡ block_place place (map seven reply)
    unfolding reply_place
    reply-placed h = rw (← is, eq-eqb r.number 1 h)

-- what was stripped is the characters of the reply
stripped-by : (short whole : Bool) (reply out : List ℕ) → (stripped_by reply short whole).number ≡ 1
    → take (stripped_by reply short whole).length (cond short out (cond whole (holding out (map seven reply)) out)) ≡ map seven reply
unfolding holding
stripped-by true whole reply out h = absurd (omega (arith, h))
stripped-by false true reply out h = take_at (map seven reply) (drop (length (map seven reply)) out) (length reply) (length-map reply seven)
stripped-by false false reply out h = absurd (omega (arith, h))

pub stripped-is : (reply out : List ℕ) (r : Stripped) (after : List ℕ) → r ≡ stripped_of reply out → after ≡ stripped_into reply out → r.number ≡ 1
    → take r.length after ≡ map seven reply
unfolding stripped_of stripped_into
stripped-is reply out r after is held h = rw (is, held) (stripped-by (ltb (length out) (length reply)) (undamaged_all reply) reply out (rw is at h))
