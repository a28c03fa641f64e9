-- What a lookup promises: it is what the full reading finds, and text behind the match isn't looked at. Assumes nothing.
use mathlib.Core.Path.{◌≡◌, refl, sym, ◌∙◌}
use mathlib.Core.Bool.{Bool, true, false, cond}
use mathlib.Core.List.{List, []}
use Prim.Native.Nat.{ℕ, zero, suc, ◌+◌, ◌<◌, ◌≤◌}
use native.Mathlib.Omega.{arith}
use borrow.Author.Tests.{eqb-true, eq-eqb, le-leb}
use lib.Dec.{eqb}
use lib.ListN.{length, take, drop}
use lib.Seq.{length-take-le}
use Rattle.text.specs.Classes.{between, same_text}
use Rattle.text.proofs.Matching.{same-is}
use Rattle.text.specs.DataSet.{DataSet}
use Rattle.reading.specs.Sets.{SetRead, address_length, value_length, set_read}
use Rattle.reading.specs.Whole.{Found, set_of, also, read_from, read_all}
use Rattle.reading.proofs.Leading.{address-led}
use Rattle.reading.proofs.Inside.{Inside, inside, tested, shown, set-closed}
use Rattle.reading.proofs.Agreeing.{Agree, agree, same-part, same_set}
use Rattle.finding.specs.Finding.{Lookup, among, position, matched_at, malformed_after, missing_after, answered, lookup, first_with, pointed_at, end_of, can_be}
use Rattle.finding.proofs.Seeking.{address_at, stopped, seek, seek-all}

-- a refusal is no match
never : (number n at : ℕ) → (stopped number n at).number ≡ 1 → ⊥
never number n at = by_number (eqb number 25)
  where
    by_number : (b : Bool) → (cond b (malformed_after n at) (missing_after n)).number ≡ 1 → ⊥
    by_number true h = let z : ◌≡◌ {A = ℕ} 25 1 = h in omega arith
    by_number false h = let z : ◌≡◌ {A = ℕ} 27 1 = h in omega arith

counted : (b k : Bool) (x y z : Lookup) (n : ℕ) → x.count ≡ n → y.count ≡ n → z.count ≡ n → (cond b x (cond k y z)).count ≡ n
counted true k x y z n e f g = e
counted false true x y z n e f g = f
counted false false x y z n e f g = g

-- the number of sets read, whatever the answer: the position of the first match, or the number of all sets
pub count-is : (s a : List ℕ) → (lookup s a).count ≡ position a (read_all s).sets
unfolding lookup answered
count-is s a = counted (among a (read_all s).sets) (eqb (read_all s).number 25) _ _ _ (position a (read_all s).sets) refl refl refl

none-among : {A : Type 0} → ◌≡◌ {A = Bool} false true → A
none-among h = absurd (let z : ◌≡◌ {A = ℕ} 0 1 = cc in omega arith)

-- an answer that is a match, and points at this set
record Points (s : List ℕ) (l : Lookup) (d : DataSet) : Type 0 where
  number : l.number ≡ 1
  set : pointed_at s l ≡ d

-- a search from a place on points at the first match of what is left
points : (more : ℕ) (s a : List ℕ) (at n : ℕ) → among a (read_from more s at).sets ≡ true → Points s (seek more s a at n) (first_with a (read_from more s at).sets)
unfolding read_from seek among first_with also set_of pointed_at
points zero s a at n h = none-among h
points (suc more) s a at n h = by_number (eqb (set_read s at).number 1) (λ k. points more s a (set_read s at).next (n + 1) k) h
  where
    d : DataSet
    d = set_of s at (set_read s at)

    left : Found
    left = read_from more s (set_read s at).next

    later : Lookup
    later = seek more s a (set_read s at).next (n + 1)

    by_address : (b : Bool) → (among a left.sets ≡ true → Points s later (first_with a left.sets)) → cond b true (among a left.sets) ≡ true
        → Points s (cond b (matched_at (n + 1) at (set_read s at)) later) (cond b d (first_with a left.sets))
    by_address true again k = record { number = refl; set = refl }
    by_address false again k = again k

    by_number : (b : Bool) → (among a left.sets ≡ true → Points s later (first_with a left.sets))
        → among a (cond b (also d left) (record { sets = []; number = (set_read s at).number; place = at })).sets ≡ true
        → Points s (cond b (cond (same_text (address_at s at (set_read s at)) a) (matched_at (n + 1) at (set_read s at)) later) (stopped (set_read s at).number n at))
        (first_with a (cond b (also d left) (record { sets = []; number = (set_read s at).number; place = at })).sets)
    by_number true again k = by_address (same_text (address_at s at (set_read s at)) a) again k
    by_number false again k = none-among k

-- where one of the sets up to the end or to a malformed one has the address, it is the first of them that has
pub finds-first : (s a : List ℕ) → among a (read_all s).sets ≡ true → ((lookup s a).number ≡ 1) × (pointed_at s (lookup s a) ≡ first_with a (read_all s).sets)
unfolding read_all
finds-first s a h =
    let p = points (suc (length s)) s a 0 0 h in
    rw (seek-all s a) (p.number, p.set)

-- a match lies behind the place where the search starts, and within the data; its value stands behind its address and the bracket
record Lies (s : List ℕ) (at : ℕ) (l : Lookup) : Type 0 where
  value : l.value_start ≡ l.address_start + l.address_length + 1
  behind : at < end_of l
  within : end_of l ≤ length s

lies : (more : ℕ) (s a : List ℕ) (at n : ℕ) → (seek more s a at n).number ≡ 1 → Lies s at (seek more s a at n)
unfolding seek
lies zero s a at n h = absurd (let z : ◌≡◌ {A = ℕ} 27 1 = h in omega arith)
lies (suc more) s a at n h = by_number (eqb (set_read s at).number 1) refl (λ k. lies more s a (set_read s at).next (n + 1) k) h
  where
    later : Lookup
    later = seek more s a (set_read s at).next (n + 1)

    by_address : (b : Bool) → Inside s at (set_read s at) → (later.number ≡ 1 → Lies s (set_read s at).next later)
        → (cond b (matched_at (n + 1) at (set_read s at)) later).number ≡ 1 → Lies s at (cond b (matched_at (n + 1) at (set_read s at)) later)
    by_address true i again k = record { value = refl; behind = omega (arith, i.next); within = omega (arith, i.next, i.fits) }
    by_address false i again k = record { value = (again k).value; behind = omega (arith, i.next, (again k).behind); within = (again k).within }

    by_number : (b : Bool) → eqb (set_read s at).number 1 ≡ b → (later.number ≡ 1 → Lies s (set_read s at).next later)
        → (cond b (cond (same_text (address_at s at (set_read s at)) a) (matched_at (n + 1) at (set_read s at)) later) (stopped (set_read s at).number n at)).number ≡ 1
        → Lies s at (cond b (cond (same_text (address_at s at (set_read s at)) a) (matched_at (n + 1) at (set_read s at)) later) (stopped (set_read s at).number n at))
    by_number true e again k = by_address (same_text (address_at s at (set_read s at)) a) (inside s at (eqb-true (set_read s at).number 1 e)) again k
    by_number false e again k = absurd (never (set_read s at).number n at k)

-- what a match points at is a part of the data
pub match-within : (s a : List ℕ) → (lookup s a).number ≡ 1
    → ((lookup s a).value_start ≡ (lookup s a).address_start + (lookup s a).address_length + 1) × (end_of (lookup s a) ≤ length s)
match-within s a h =
    let z = lies (suc (length s)) s a 0 0 (rw (seek-all s a) at h) in
    rw (seek-all s a) (z.value, z.within)

module _ (s t a : List ℕ) (end : ℕ) (g : Agree s t end) where
  -- a turn over either data is the same, where the set ends before they part
  same_turn : (more at n : ℕ) → (set_read s at).number ≡ 1 → (set_read s at).next ≤ end
      → seek (suc more) t a at n ≡ cond (same_text (address_at s at (set_read s at)) a) (matched_at (n + 1) at (set_read s at)) (seek more t a (set_read s at).next (n + 1))
  unfolding seek
  same_turn more at n set ends =
      let i = inside s at set in
      let e : set_read t at ≡ set_read s at = same_set s t end g at set ends in
      let f : address_at t at (set_read s at) ≡ address_at s at (set_read s at) = sym (same-part s t end g at (set_read s at).address_length (omega (arith, i.next, ends))) in
      rw (e, eq-eqb (set_read s at).number 1 set, f)

  same-search : (more enough at n : ℕ) → (seek more s a at n).number ≡ 1 → end_of (seek more s a at n) ≤ end → length t < at + enough
      → seek enough t a at n ≡ seek more s a at n
  unfolding seek
  same-search zero enough at n h ends room = absurd (let z : ◌≡◌ {A = ℕ} 27 1 = h in omega arith)
  same-search (suc more) zero at n h ends room = absurd (omega (arith, (lies (suc more) s a at n h).behind, ends, g.there, room))
  same-search (suc more) (suc enough) at n h ends room =
      by_number (eqb (set_read s at).number 1) refl (λ k l m. same-search more enough (set_read s at).next (n + 1) k l m) h ends
    where
      r : SetRead
      r = set_read s at

      on-s : Lookup
      on-s = seek more s a (set_read s at).next (n + 1)

      on-t : Lookup
      on-t = seek enough t a (set_read s at).next (n + 1)

      by_address : (b : Bool) → Inside s at r → same_text (address_at s at r) a ≡ b → r.number ≡ 1
          → (on-s.number ≡ 1 → end_of on-s ≤ end → length t < r.next + enough → on-t ≡ on-s)
          → (cond b (matched_at (n + 1) at r) on-s).number ≡ 1 → end_of (cond b (matched_at (n + 1) at r) on-s) ≤ end
          → seek (suc enough) t a at n ≡ cond b (matched_at (n + 1) at r) on-s
      by_address true i e set again k l = same_turn enough at n set (omega (arith, i.next, l)) ∙ rw e
      by_address false i e set again k l =
          let z = lies more s a (set_read s at).next (n + 1) k in
          same_turn enough at n set (omega (arith, z.behind, l)) ∙ rw e (again k l (omega (arith, i.next, room)))

      by_number : (b : Bool) → eqb r.number 1 ≡ b
          → (on-s.number ≡ 1 → end_of on-s ≤ end → length t < r.next + enough → on-t ≡ on-s)
          → (cond b (cond (same_text (address_at s at r) a) (matched_at (n + 1) at r) on-s) (stopped r.number n at)).number ≡ 1
          → end_of (cond b (cond (same_text (address_at s at r) a) (matched_at (n + 1) at r) on-s) (stopped r.number n at)) ≤ end
          → seek (suc enough) t a at n ≡ cond b (cond (same_text (address_at s at r) a) (matched_at (n + 1) at r) on-s) (stopped r.number n at)
      by_number true e again k l =
          let set = eqb-true r.number 1 e in
          by_address (same_text (address_at s at r) a) (inside s at set) refl set again k l
      by_number false e again k l = absurd (never r.number n at k)

-- text behind the match isn't looked at: the answer is the same for any two data that agree up to the match's end
pub stops-there : (s t a : List ℕ) → (lookup s a).number ≡ 1 → take (end_of (lookup s a)) s ≡ take (end_of (lookup s a)) t → lookup t a ≡ lookup s a
stops-there s t a h e =
    let found = rw (seek-all s a) at h in
    let same = rw (seek-all s a) at e in
    let z = lies (suc (length s)) s a 0 0 found in
    let g = agree s t (end_of (seek (suc (length s)) s a 0 0)) z.within same in
    seek-all t a ∙ same-search s t a (end_of (seek (suc (length s)) s a 0 0)) g (suc (length s)) (suc (length t)) 0 0 found (omega arith) (omega arith) ∙ sym (seek-all s a)

-- what was read as a set has an address that a set can have
read-can-be : (s : List ℕ) (at : ℕ) → (set_read s at).number ≡ 1 → can_be (address_at s at (set_read s at)) ≡ true
unfolding can_be between
read-can-be s at set =
    let t = drop at s in
    let a = address_length t in
    let k = shown s at set in
    let q = tested t a (value_length t a) k.set in
    let n : length (take a t) ≡ a = length-take-le a t (omega (arith, set-closed t a (value_length t a) k.set)) in
    rw (k.is, n, le-leb 1 a q.some, le-leb a 16 q.short, address-led t)

found-can-be : (more : ℕ) (s a : List ℕ) (at n : ℕ) → (seek more s a at n).number ≡ 1 → can_be a ≡ true
unfolding seek
found-can-be zero s a at n h = absurd (let z : ◌≡◌ {A = ℕ} 27 1 = h in omega arith)
found-can-be (suc more) s a at n h = by_number (eqb (set_read s at).number 1) refl (λ k. found-can-be more s a (set_read s at).next (n + 1) k) h
  where
    later : Lookup
    later = seek more s a (set_read s at).next (n + 1)

    by_address : (b : Bool) → same_text (address_at s at (set_read s at)) a ≡ b → (set_read s at).number ≡ 1 → (later.number ≡ 1 → can_be a ≡ true)
        → (cond b (matched_at (n + 1) at (set_read s at)) later).number ≡ 1 → can_be a ≡ true
    by_address true e set again k = rw (same-is (address_at s at (set_read s at)) a e) at (read-can-be s at set)
    by_address false e set again k = again k

    by_number : (b : Bool) → eqb (set_read s at).number 1 ≡ b → (later.number ≡ 1 → can_be a ≡ true)
        → (cond b (cond (same_text (address_at s at (set_read s at)) a) (matched_at (n + 1) at (set_read s at)) later) (stopped (set_read s at).number n at)).number ≡ 1
        → can_be a ≡ true
    by_number true e again k = by_address (same_text (address_at s at (set_read s at)) a) refl (eqb-true (set_read s at).number 1 e) again k
    by_number false e again k = absurd (never (set_read s at).number n at k)

-- so what no set can have as its address is never found
pub never-found : (s a : List ℕ) → can_be a ≡ false → (lookup s a).number ≡ 1 → ⊥
never-found s a h found =
    let k = found-can-be (suc (length s)) s a 0 0 (rw (seek-all s a) at found) in
    let z : ◌≡◌ {A = ℕ} 0 1 = cc in
    omega arith
