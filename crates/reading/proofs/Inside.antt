-- A set that was read lies within the data, and the next place is past it. Assumes nothing.
use mathlib.Core.Path.{◌≡◌, refl, sym, ◌∙◌}
use mathlib.Core.Bool.{Bool, true, false, cond, ◌&&◌, ◌||◌}
use mathlib.Core.List.{List}
use Prim.Native.Nat.{ℕ, ◌+◌, ◌≤◌, ◌<◌}
use native.Mathlib.Omega.{arith}
use borrow.Author.Tests.{leb-true, leb-false, eqb-true, eq-eqb}
use lib.Dec.{leb, eqb}
use lib.ListN.{length, drop, get_or, length-drop}
use Rattle.line.proofs.Runs.{and_left, and_right, chosen}
use Rattle.reading.specs.Sets.{SetRead, starts_with3, end_at, malformed_at, set_at, is_set, address_length, value_length, set_here, set_read}

pub record Inside (s : List ℕ) (at : ℕ) (r : SetRead) : Type 0 where
  pub next : r.next ≡ at + r.address_length + 1 + r.value_length + 3
  pub fits : r.next ≤ length s

unfoldable pub done : SetRead → Bool
done r = eqb r.number 1

-- a choice that shows what only its second side shows was made for that one
other : {A : Type 0} (shows : A → Bool) (b : Bool) (x y : A) → shows x ≡ false → shows (cond b x y) ≡ true → b ≡ false
other shows true x y e h = sym h ∙ e
other shows false x y e h = refl

or_left : (a b : Bool) → (a || b) ≡ false → a ≡ false
or_left true b h = h
or_left false b h = refl

-- what a set's test says, one by one
pub record Tested (t : List ℕ) (a v : ℕ) : Type 0 where
  pub some : 1 ≤ a
  pub short : a ≤ 16
  pub bracket : get_or t a 0 ≡ 40
  pub small : v ≤ 32
  pub closes : starts_with3 41 13 10 (drop (a + 1 + v) t) ≡ true

pub tested : (t : List ℕ) (a v : ℕ) → is_set t a v ≡ true → Tested t a v
unfolding is_set
tested t a v h =
    let first = (leb 1 a && leb a 16) && eqb (get_or t a 0) 40 in
    let rest = leb v 32 && starts_with3 41 13 10 (drop (a + 1 + v) t) in
    let f = and_left first rest h in
    let r = and_right first rest h in
    let l = and_left (leb 1 a && leb a 16) (eqb (get_or t a 0) 40) f in
    record {
      some = leb-true 1 a (and_left (leb 1 a) (leb a 16) l);
      short = leb-true a 16 (and_right (leb 1 a) (leb a 16) l);
      bracket = eqb-true (get_or t a 0) 40 (and_right (leb 1 a && leb a 16) (eqb (get_or t a 0) 40) f);
      small = leb-true v 32 (and_left (leb v 32) (starts_with3 41 13 10 (drop (a + 1 + v) t)) r);
      closes = and_right (leb v 32) (starts_with3 41 13 10 (drop (a + 1 + v) t)) r;
    }

closed-long : (s : List ℕ) → starts_with3 41 13 10 s ≡ true → 3 ≤ length s
unfolding starts_with3
closed-long s h = leb-true 3 (length s) (and_left (leb 3 (length s)) _ h)

pub set-closed : (s : List ℕ) (a v : ℕ) → is_set s a v ≡ true → a + 1 + v + 3 ≤ length s
set-closed s a v h = omega (arith, length-drop (a + 1 + v) s, closed-long (drop (a + 1 + v) s) (tested s a v h).closes)

-- what shows as a set: where it stands, its two lengths, and that it is one
pub record Shown (s : List ℕ) (at a v : ℕ) : Type 0 where
  pub there : at < length s
  pub set : is_set (drop at s) a v ≡ true
  pub is : set_read s at ≡ set_at at a v

module _ (s : List ℕ) (at : ℕ) where
  set_is : done (set_here at (drop at s)) ≡ true → is_set (drop at s) (address_length (drop at s)) (value_length (drop at s) (address_length (drop at s))) ≡ true
  unfolding set_here done
  set_is k =
      let a = address_length (drop at s) in
      let v = value_length (drop at s) a in
      chosen done (is_set (drop at s) a v) (set_at at a v) (malformed_at at) refl k

  here-is : is_set (drop at s) (address_length (drop at s)) (value_length (drop at s) (address_length (drop at s))) ≡ true
      → set_here at (drop at s) ≡ set_at at (address_length (drop at s)) (value_length (drop at s) (address_length (drop at s)))
  unfolding set_here
  here-is h = rw h

  pub shown : (set_read s at).number ≡ 1 → Shown s at (address_length (drop at s)) (value_length (drop at s) (address_length (drop at s)))
  unfolding set_read done
  shown h =
      let here = set_here at (drop at s) in
      let ended = leb (length s) at || starts_with3 33 13 10 (drop at s) in
      let shows : done (set_read s at) ≡ true = eq-eqb (set_read s at).number 1 h in
      let goes_on : ended ≡ false = other done ended (end_at at) here refl shows in
      let in-data : at < length s = leb-false (length s) at (or_left (leb (length s) at) (starts_with3 33 13 10 (drop at s)) goes_on) in
      let e = set_is (rw goes_on at shows) in
      record { there = in-data; set = e; is = rw goes_on (here-is e) }

  pub inside : (set_read s at).number ≡ 1 → Inside s at (set_read s at)
  inside h =
      let a = address_length (drop at s) in
      let v = value_length (drop at s) a in
      let k = shown h in
      let room : a + 1 + v + 3 ≤ length (drop at s) = set-closed (drop at s) a v k.set in
      rw k.is (record { next = refl; fits = omega (arith, length-drop at s, k.there) })

pub read-inside : (s : List ℕ) (at : ℕ) (r : SetRead) → r ≡ set_read s at → r.number ≡ 1 → Inside s at r
read-inside s at r e h = rw e (inside s at (rw e at h))
