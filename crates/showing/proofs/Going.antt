-- The data sets shown one by one: what is shown so far, with what is found from here on, is all that is shown. Assumes nothing.
use mathlib.Core.Path.{◌≡◌, refl, sym, ap, ap₂, ◌∙◌}
use mathlib.Core.Bool.{Bool, true, false, cond, ◌||◌}
use mathlib.Core.List.{List, [], ◌∷◌, ◌++◌, append-nil, append_assoc}
use Prim.Native.Nat.{ℕ, suc, ◌+◌, ◌-◌, ◌<◌, ◌≤◌}
use native.Mathlib.Nat.{zero-add}
use native.Mathlib.Omega.{arith}
use borrow.Author.Tests.{eq-eqb, ne_eqb, le-leb}
use lib.Dec.{eqb, leb}
use lib.ListN.{length, take, drop, length-append, length-drop}
use lib.Seq.{length-take-le}
use Rattle.text.specs.DataSet.{DataSet}
use Rattle.text.specs.Writing.{stored}
use Rattle.text.proofs.Writing.{stored-append, stored-holding}
use Rattle.numerals.specs.Numerals.{number_line}
use Rattle.numerals.proofs.Widths.{line-few}
use Rattle.reading.specs.Sets.{SetRead, starts_with3, end_at, malformed_at, set_at, is_set, address_length, value_length, set_here, set_read}
use Rattle.reading.specs.Whole.{set_of, Found, also, read_from, read_all}
use Rattle.reading.proofs.Inside.{Inside, read-inside}
use Rattle.showing.specs.Shown.{Shown, Readout, set_line, set_lines, found_shown, sets_shown, Shows}

-- the address and the value at a place, as parts that are lent
module _ (s : List ℕ) (at a v : ℕ) (inside : at + a + 1 + v ≤ length s) where
  pub address-lent : take (at + a - at) (drop at s) ≡ take a (drop at s)
  address-lent = ap (λ (n : ℕ). take n (drop at s)) {x = at + a - at} {y = a} (omega arith)

  pub value_lent : take (at + a + 1 + v - (at + a + 1)) (drop (at + a + 1) s) ≡ take v (drop (at + a + 1) s)
  value_lent = ap (λ (n : ℕ). take n (drop (at + a + 1) s)) {x = at + a + 1 + v - (at + a + 1)} {y = v} (omega arith)

  pub address-long : length (take a (drop at s)) ≡ a
  address-long = length-take-le a (drop at s) (omega (arith, length-drop at s))

  pub value-long : length (take v (drop (at + a + 1) s)) ≡ v
  value-long = length-take-le v (drop (at + a + 1) s) (omega (arith, length-drop (at + a + 1) s))

pub length-set : (d : DataSet) → length (set_line d) ≡ length d.address + length d.value + 2
unfolding set_line
length-set d =
    omega (
      arith,
      length-append d.address (32 ∷ (d.value ++ (10 ∷ []))),
      length-append d.value (10 ∷ []),
    )

-- a text up to the end, and one up to a refusal
abbrev pub whole : List ℕ → Readout
whole t = record { number = 1; text = t }

abbrev pub stopped : ℕ → List ℕ → Readout
stopped n t = record { number = n; text = t }

-- what is found, shown below a text
unfoldable pub below : List ℕ → Found → Readout
below xs f = cond (eqb f.number 0) (whole (xs ++ set_lines f.sets)) (stopped f.number (xs ++ (set_lines f.sets ++ number_line f.number f.place)))

below_none : (f : Found) → found_shown f ≡ below [] f
unfolding found_shown below
below_none f = refl

-- one set more
below-also : (xs : List ℕ) (d : DataSet) (f : Found) → below xs (also d f) ≡ below (xs ++ set_line d) f
unfolding below also set_lines
below-also xs d f = ap₂ (cond (eqb f.number 0)) (ap whole ends) (ap (stopped f.number) stops)
  where
    ends : xs ++ (set_line d ++ set_lines f.sets) ≡ (xs ++ set_line d) ++ set_lines f.sets
    ends = sym (append_assoc xs (set_line d) (set_lines f.sets))

    stops : xs ++ ((set_line d ++ set_lines f.sets) ++ number_line f.number f.place) ≡ (xs ++ set_line d) ++ (set_lines f.sets ++ number_line f.number f.place)
    stops =
        let l = set_line d in
        let m = set_lines f.sets in
        let n = number_line f.number f.place in
        ap (λ (t : List ℕ). xs ++ t) (append_assoc l m n) ∙ sym (append_assoc xs l (m ++ n))

-- a malformed set has the place where it starts
malformed-place : (s : List ℕ) (at : ℕ) → ((set_read s at).number ≡ 0 → ⊥) → ((set_read s at).number ≡ 1 → ⊥) → (set_read s at).place ≡ at
unfolding set_read set_here
malformed-place s at =
    let a = address_length (drop at s) in
    let v = value_length (drop at s) a in
    by (leb (length s) at || starts_with3 33 13 10 (drop at s)) (is_set (drop at s) a v) a v
  where
    by : (end set : Bool) (a v : ℕ) → ((cond end (end_at at) (cond set (set_at at a v) (malformed_at at))).number ≡ 0 → ⊥)
        → ((cond end (end_at at) (cond set (set_at at a v) (malformed_at at))).number ≡ 1 → ⊥)
        → (cond end (end_at at) (cond set (set_at at a v) (malformed_at at))).place ≡ at
    by true set a v h k = absurd (h refl)
    by false true a v h k = absurd (k refl)
    by false false a v h k = refl

-- past the data there is the end
past_end : (s : List ℕ) (at : ℕ) → length s ≤ at → (set_read s at).number ≡ 0
unfolding set_read
past_end s at h = rw (le-leb (length s) at h)

-- what a turn of the full reading finds
read_set : (more : ℕ) (s : List ℕ) (at : ℕ) → (set_read s at).number ≡ 1 → read_from (suc more) s at ≡ also (set_of s at (set_read s at)) (read_from more s (set_read s at).next)
unfolding read_from
read_set more s at h = rw (eq-eqb (set_read s at).number 1 h)

read-last : (more : ℕ) (s : List ℕ) (at : ℕ) → ((set_read s at).number ≡ 1 → ⊥) → read_from (suc more) s at ≡ record { sets = []; number = (set_read s at).number; place = at }
unfolding read_from
read-last more s at h = rw (ne_eqb (set_read s at).number 1 h)

-- the loop: so much of the data was read, so much of the buffer is written, and so many sets are looked at from here on
pub record Goes (s out : List ℕ) (at to : ℕ) (after : List ℕ) : Type 0 where
  pub left : ℕ
  pub enough : length s < at + suc left
  pub in-data : at ≤ length s
  pub shown : List ℕ
  pub long : to ≡ length shown
  pub short : to ≤ at
  pub held : after ≡ stored out 0 shown
  pub same : sets_shown s ≡ below shown (read_from (suc left) s at)
  pub place : (read_all s).place ≡ (read_from (suc left) s at).place

pub goes_first : (s out : List ℕ) → Goes s out 0 0 out
unfolding sets_shown read_all stored
goes_first s out =
    record {
      left = length s;
      enough = omega arith;
      in-data = omega arith;
      shown = [];
      long = refl;
      short = omega arith;
      held = refl;
      same = below_none (read_from (suc (length s)) s 0);
      place = refl;
    }

module _ (s out : List ℕ) (at to : ℕ) (after : List ℕ) (g : Goes s out at to after) where
  -- one set more
  module _ (r : SetRead) (is : r ≡ set_read s at) (one : r.number ≡ 1) where
    here : Inside s at r
    here = read-inside s at r is one

    pub set-inside : at + r.address_length + 1 + r.value_length ≤ length s
    set-inside = omega (arith, here.next, here.fits)

    pub set_room : length s + 42 ≤ length out → length after ≡ length out → to + r.address_length + r.value_length + 2 ≤ length after
    set_room room same = omega (arith, set-inside, g.short)

    pub goes-closer : length s - r.next < length s - at
    goes-closer = omega (arith, here.next, here.fits)

    more : (left : ℕ) → g.left ≡ suc left → sets_shown s ≡ below (g.shown ++ set_line (set_of s at r)) (read_from (suc left) s r.next)
    more left e =
        rw is
        (g.same
        ∙ ap (λ (k : ℕ). below g.shown (read_from (suc k) s at)) e
        ∙ ap (below g.shown) (read_set (suc left) s at (rw is at one))
        ∙ below-also g.shown (set_of s at (set_read s at)) (read_from (suc left) s (set_read s at).next))

    more-place : (left : ℕ) → g.left ≡ suc left → (read_all s).place ≡ (read_from (suc left) s r.next).place
    unfolding also
    more-place left e =
        rw is
        (g.place
        ∙ ap (λ (k : ℕ). (read_from (suc k) s at).place) e
        ∙ ap (λ (f : Found). f.place) (read_set (suc left) s at (rw is at one)))

    set_long : length (set_line (set_of s at r)) ≡ r.address_length + r.value_length + 2
    unfolding set_of
    set_long =
        let a = r.address_length in
        let v = r.value_length in
        length-set (set_of s at r) ∙ ap₂ (λ (x y : ℕ). x + y + 2) (address-long s at a v set-inside) (value-long s at a v set-inside)

    pub goes_on : (to' : ℕ) → to' ≡ to + r.address_length + r.value_length + 2 → (last : List ℕ) → last ≡ stored after to (set_line (set_of s at r))
        → Goes s out r.next to' last
    goes_on to' t last w =
        let left = g.left - 1 in
        let e : g.left ≡ suc left = omega (arith, g.enough, here.next, here.fits) in
        record {
          left = left;
          enough = omega (arith, g.enough, here.next);
          in-data = here.fits;
          shown = g.shown ++ set_line (set_of s at r);
          long = omega (arith, t, g.long, set_long, length-append g.shown (set_line (set_of s at r)));
          short = omega (arith, t, g.short, here.next);
          held =
              w
              ∙ ap₂ (λ (b : List ℕ) (k : ℕ). stored b k (set_line (set_of s at r))) g.held (g.long ∙ sym (zero-add (length g.shown)))
              ∙ stored-append out 0 g.shown (set_line (set_of s at r));
          same = more left e;
          place = more-place left e;
        }

  -- the end
  ended_is : (set_read s at).number ≡ 0 → sets_shown s ≡ whole g.shown
  unfolding below set_lines
  ended_is z =
      g.same
      ∙ ap (below g.shown) (read-last g.left s at (λ one. (omega arith)))
      ∙ (rw (eq-eqb (set_read s at).number 0 z) (ap whole (append-nil g.shown)))

  pub goes-to-end : length s + 42 ≤ length out → (set_read s at).number ≡ 0 → Shows (sets_shown s) out (record { number = 1; length = to }) after
  goes-to-end room z =
      rw (ended_is z)
      (record {
        number = refl;
        long = g.long;
        held = g.held ∙ stored-holding out g.shown (omega (arith, g.long, g.short, g.in-data));
      })

  pub goes-past : length s + 42 ≤ length out → length s ≤ at → Shows (sets_shown s) out (record { number = 1; length = to }) after
  goes-past room h = goes-to-end room (past_end s at h)

  -- a malformed set
  malformed-is : ((set_read s at).number ≡ 0 → ⊥) → ((set_read s at).number ≡ 1 → ⊥)
      → sets_shown s ≡ stopped (set_read s at).number (g.shown ++ number_line (set_read s at).number (set_read s at).place)
  unfolding below set_lines
  malformed-is z one =
      g.same
      ∙ ap (below g.shown) (read-last g.left s at one)
      ∙ (rw (ne_eqb (set_read s at).number 0 z, malformed-place s at z one))

  -- it stands where the full reading ends
  pub wrong-place : (r : SetRead) → r ≡ set_read s at → (r.number ≡ 0 → ⊥) → (r.number ≡ 1 → ⊥) → r.place ≡ (read_all s).place
  wrong-place r is z one =
      rw is
      (malformed-place s at (rw is at z) (rw is at one)
      ∙ sym (g.place ∙ ap (λ (f : Found). f.place) (read-last g.left s at (rw is at one))))

  pub goes-wrong : length s + 42 ≤ length out → (r : SetRead) → r ≡ set_read s at → (r.number ≡ 0 → ⊥) → (r.number ≡ 1 → ⊥) → (q : Shown)
      → q ≡ record { number = r.number; length = to + length (number_line r.number r.place) } → (last : List ℕ)
      → last ≡ stored after to (number_line r.number r.place) → Shows (sets_shown s) out q last
  goes-wrong room r is z one q e last w =
      let line = number_line r.number r.place in
      let all : sets_shown s ≡ stopped r.number (g.shown ++ line) = rw is (malformed-is (rw is at z) (rw is at one)) in
      let long : length (g.shown ++ line) ≡ to + length line = length-append g.shown line ∙ ap (λ (k : ℕ). k + length line) (sym g.long) in
      rw (all, e)
      (record {
        number = refl;
        long = sym long;
        held =
            w
            ∙ ap₂ (λ (b : List ℕ) (k : ℕ). stored b k line) g.held (g.long ∙ sym (zero-add (length g.shown)))
            ∙ stored-append out 0 g.shown line
            ∙ stored-holding out (g.shown ++ line) (omega (arith, long, line-few r.number r.place, g.short, g.in-data));
      })
