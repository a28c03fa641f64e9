-- The first data set with an address, shown: the line of the first that the full reading finds, or the refusal. Assumes nothing.
use mathlib.Core.Path.{◌≡◌, refl, sym, ◌∙◌}
use mathlib.Core.Bool.{Bool, true, false, cond}
use mathlib.Core.List.{List, map}
use Prim.Native.Nat.{ℕ, ◌+◌, ◌≤◌}
use native.Mathlib.Omega.{arith}
use borrow.Author.Tests.{eq-eqb, ne_eqb}
use lib.Dec.{eqb}
use lib.ListN.{length, take, drop}
use Rattle.line.specs.Characters.{seven}
use Rattle.text.specs.DataSet.{DataSet}
use Rattle.text.specs.Writing.{stored}
use Rattle.text.proofs.Writing.{stored-holding}
use Rattle.blocks.specs.Parts.{part_of}
use Rattle.reading.specs.Whole.{read_all}
use Rattle.finding.specs.Finding.{Lookup, among, position, malformed_after, missing_after, answered, lookup, first_with, pointed_at, end_of, can_be}
use Rattle.finding.proofs.Promised.{match-within, finds-first, never-found}
use Rattle.showing.specs.Shown.{set_line, refusal_shown, lookup_shown, first_shown, block_shown, reply_shown, register_shown, Shows}
use Rattle.showing.proofs.Going.{whole, address-long, value-long, length-set}

-- where one of the sets up to the end or to a malformed one has the address: the line of the first of them
pub first-shown : (s a : List ℕ) → among a (read_all s).sets ≡ true → first_shown a s ≡ whole (set_line (first_with a (read_all s).sets))
unfolding first_shown lookup_shown
first-shown s a h =
    let f = finds-first s a h in
    rw (eq-eqb (lookup s a).number 1 f.0, f.1)

-- where none has it: 25 and the place of the malformed one, or 27 and 0
pub none-shown : (s a : List ℕ) → among a (read_all s).sets ≡ false
    → first_shown a s ≡ cond (eqb (read_all s).number 25) (refusal_shown 25 (read_all s).place) (refusal_shown 27 0)
unfolding first_shown lookup_shown lookup answered
none-shown s a h = rw h (by_number (eqb (read_all s).number 25))
  where
    n : ℕ
    n = position a (read_all s).sets

    by_number : (b : Bool) → lookup_shown s (cond b (malformed_after n (read_all s).place) (missing_after n))
        ≡ cond b (refusal_shown 25 (read_all s).place) (refusal_shown 27 0)
    by_number true = refl
    by_number false = refl

-- what no set can have as its address is not among theirs
not-among : (s a : List ℕ) → can_be a ≡ false → among a (read_all s).sets ≡ false
not-among s a h = by-test (among a (read_all s).sets) refl
  where
    by-test : (b : Bool) → among a (read_all s).sets ≡ b → b ≡ false
    by-test true e = absurd (never-found s a h (finds-first s a e).0)
    by-test false e = refl

-- so any such text has the same shown: one that is too long to be kept may be taken for one of no characters
pub unfit-shown : (reply a b : List ℕ) → can_be a ≡ false → can_be b ≡ false → register_shown reply a ≡ register_shown reply b
unfolding register_shown reply_shown block_shown
unfit-shown reply a b h k =
    let block = map seven reply in
    let s = take (part_of block).length (drop (part_of block).start block) in
    let same : first_shown a s ≡ first_shown b s = none-shown s a (not-among s a h) ∙ sym (none-shown s b (not-among s b k)) in
    rw same

-- the answer that the code shows
module _ (s a : List ℕ) (l : Lookup) (is : l ≡ lookup s a) where
  pub miss-shown : (l.number ≡ 1 → ⊥) → first_shown a s ≡ refusal_shown l.number l.place
  unfolding first_shown lookup_shown
  miss-shown h = rw (← is, ne_eqb l.number 1 h)

  module _ (one : l.number ≡ 1) where
    value-at : l.value_start ≡ l.address_start + l.address_length + 1
    value-at = rw is (match-within s a (rw is at one)).0

    ends-within : end_of l ≤ length s
    ends-within = rw is (match-within s a (rw is at one)).1

    pub hit-inside : l.address_start + l.address_length + 1 + l.value_length ≤ length s
    hit-inside = omega (arith, value-at, ends-within)

    -- as the line is put in
    abbrev pub pointed : DataSet
    pointed =
        record {
          address = take l.address_length (drop l.address_start s);
          value = take l.value_length (drop (l.address_start + l.address_length + 1) s);
        }

    hit-shown : first_shown a s ≡ whole (set_line pointed)
    unfolding first_shown lookup_shown pointed_at
    hit-shown = rw (← is, eq-eqb l.number 1 one, value-at)

    hit-long : length (set_line pointed) ≡ l.address_length + l.value_length + 2
    hit-long =
        let at = l.address_start in
        let n = l.address_length in
        let v = l.value_length in
        omega (arith, length-set pointed, address-long s at n v hit-inside, value-long s at n v hit-inside)

    pub hit-shows : (out : List ℕ) → length s + 42 ≤ length out → (n : ℕ) → n ≡ 0 + l.address_length + l.value_length + 2 → (after : List ℕ)
        → after ≡ stored out 0 (set_line pointed) → Shows (first_shown a s) out (record { number = 1; length = n }) after
    hit-shows out room n e after w =
        rw hit-shown
        (record {
          number = refl;
          long = omega (arith, e, hit-long);
          held = w ∙ stored-holding out (set_line pointed) (omega (arith, hit-long, hit-inside));
        })
