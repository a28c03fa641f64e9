-- A search set by set is the lookup in the full reading. Assumes nothing.
use mathlib.Core.Path.{◌≡◌, refl, sym, ap, ◌∙◌}
use mathlib.Core.Bool.{Bool, true, false, cond}
use mathlib.Core.List.{List, []}
use Prim.Native.Nat.{ℕ, zero, suc, ◌+◌, ◌-◌}
use native.Mathlib.Omega.{arith}
use lib.Dec.{eqb}
use lib.ListN.{length, take, drop}
use Rattle.text.specs.Classes.{same_text}
use Rattle.text.specs.DataSet.{DataSet}
use Rattle.reading.specs.Sets.{SetRead, set_read}
use Rattle.reading.specs.Whole.{Found, set_of, also, read_from, read_all, place_after}
use Rattle.finding.specs.Finding.{Lookup, among, position, matched_at, malformed_after, missing_after, answered, lookup}

-- the address of the set that was read at a place
abbrev pub address_at : List ℕ → ℕ → SetRead → List ℕ
address_at s at r = take r.address_length (drop at s)

-- no match: a malformed set, or the end
abbrev pub stopped : ℕ → ℕ → ℕ → Lookup
stopped number n at = cond (eqb number 25) (malformed_after n at) (missing_after n)

-- from a place on, behind so many sets; at most so many are looked at
unfoldable pub seek : ℕ → List ℕ → List ℕ → ℕ → ℕ → Lookup
seek zero s a at n = missing_after n
seek (suc more) s a at n =
    cond (eqb (set_read s at).number 1)
    (cond (same_text (address_at s at (set_read s at)) a) (matched_at (n + 1) at (set_read s at)) (seek more s a (set_read s at).next (n + 1)))
    (stopped (set_read s at).number n at)

-- the place after one set more
place-next : (s : List ℕ) (n at : ℕ) → place_after s (suc n) at ≡ (set_read s (place_after s n at)).next
unfolding place_after
place-next s zero at = refl
place-next s (suc n) at = place-next s n (set_read s at).next

-- the answer from what is left to read, behind so many sets that have another address
abbrev from-left : List ℕ → List ℕ → ℕ → Found → Lookup
from-left s a n f = answered s (n + position a f.sets) (among a f.sets) f

module _ (s a : List ℕ) (n at : ℕ) (there : at ≡ place_after s n 0) where
  -- the next set has another address
  passes : (d : DataSet) (f : Found) → same_text d.address a ≡ false → from-left s a n (also d f) ≡ from-left s a (n + 1) f
  unfolding answered also among position
  passes d f h = rw h (ap (λ (k : ℕ). answered s k (among a f.sets) f) {x = n + suc (position a f.sets)} {y = n + 1 + position a f.sets} (omega arith))

  -- the next set has the address
  matches : (d : DataSet) (f : Found) → same_text d.address a ≡ true → from-left s a n (also d f) ≡ matched_at (n + 1) at (set_read s at)
  unfolding answered also among position
  matches d f h =
      let p : place_after s (n + 1 - 1) 0 ≡ at = ap (λ (k : ℕ). place_after s k 0) {x = n + 1 - 1} {y = n} (omega arith) ∙ sym there in
      rw h (ap (λ (k : ℕ). matched_at (n + 1) k (set_read s k)) p)

  -- there is no next set
  stops : (number : ℕ) → from-left s a n (record { sets = []; number = number; place = at }) ≡ stopped number n at
  unfolding answered among position
  stops number = ap (λ (k : ℕ). stopped number k at) {x = n + 0} {y = n} (omega arith)

-- so a search is the answer from what is left
pub seek-left : (more : ℕ) (s a : List ℕ) (n at : ℕ) → at ≡ place_after s n 0 → from-left s a n (read_from more s at) ≡ seek more s a at n
unfolding read_from seek set_of
seek-left zero s a n at there = stops s a n at there 0
seek-left (suc more) s a n at there =
    let next = (set_read s at).next in
    let on : next ≡ place_after s (n + 1) 0 = ap (λ (k : ℕ). (set_read s k).next) there ∙ sym (place-next s n 0) ∙ ap (λ (k : ℕ). place_after s k 0) {x = suc n} {y = n + 1} (omega arith) in
    by_number (seek-left more s a (n + 1) next on) (eqb (set_read s at).number 1)
  where
    d : DataSet
    d = set_of s at (set_read s at)

    left : Found
    left = read_from more s (set_read s at).next

    later : Lookup
    later = seek more s a (set_read s at).next (n + 1)

    by_address : from-left s a (n + 1) left ≡ later → (b : Bool) → same_text (address_at s at (set_read s at)) a ≡ b
        → from-left s a n (also d left) ≡ cond b (matched_at (n + 1) at (set_read s at)) later
    by_address e true h = matches s a n at there d left h
    by_address e false h = passes s a n at there d left h ∙ e

    by_number : from-left s a (n + 1) left ≡ later → (b : Bool)
        → from-left s a n (cond b (also d left) (record { sets = []; number = (set_read s at).number; place = at }))
        ≡ cond b (cond (same_text (address_at s at (set_read s at)) a) (matched_at (n + 1) at (set_read s at)) later) (stopped (set_read s at).number n at)
    by_number e true = by_address e (same_text (address_at s at (set_read s at)) a) refl
    by_number e false = stops s a n at there (set_read s at).number

pub seek-all : (s a : List ℕ) → lookup s a ≡ seek (suc (length s)) s a 0 0
unfolding lookup read_all place_after
seek-all s a =
    ap (λ (k : ℕ). answered s k (among a (read_all s).sets) (read_all s)) {x = position a (read_all s).sets} {y = 0 + position a (read_all s).sets} (omega arith)
    ∙ seek-left (suc (length s)) s a 0 0 refl
