-- The lookup's turn and its ways out, as the code takes them. Assumes nothing.
use mathlib.Core.Path.{◌≡◌, sym, ap, ◌∙◌}
use mathlib.Core.Bool.{Bool, true, false}
use mathlib.Core.List.{List}
use Prim.Native.Nat.{ℕ, suc, ◌+◌, ◌-◌, ◌≤◌}
use native.Mathlib.Omega.{arith}
use borrow.Author.Tests.{eq-eqb, ne_eqb}
use lib.ListN.{length, take, drop}
use Rattle.text.specs.Classes.{same_text}
use Rattle.reading.specs.Sets.{SetRead, set_read}
use Rattle.reading.proofs.Inside.{Inside, read-inside}
use Rattle.finding.specs.Finding.{matched_at, lookup}
use Rattle.finding.proofs.Seeking.{address_at, stopped, seek, seek-all}

-- so many sets were read, the reader stands at a place, and the search from there is the lookup
pub record Sought (s a : List ℕ) (at n : ℕ) : Type 0 where
  pub few : n ≤ at
  pub within : at ≤ length s
  pub same : seek (suc (length s - n)) s a at n ≡ lookup s a

pub none-sought : (s a : List ℕ) → Sought s a 0 0
none-sought s a =
    record { few = omega arith; within = omega arith; same = ap (λ (k : ℕ). seek (suc k) s a 0 0) {x = length s - 0} {y = length s} (omega arith) ∙ sym (seek-all s a) }

module _ (s a : List ℕ) (at n : ℕ) (r : SetRead) (sought : Sought s a at n) (e : r ≡ set_read s at) where
  pub ends : (r.number ≡ 1 → ⊥) → stopped r.number n at ≡ lookup s a
  unfolding seek
  ends h = rw e (rw (ne_eqb (set_read s at).number 1 (λ k. h (ap (λ (t : SetRead). t.number) e ∙ k))) at sought.same)

  module _ (set : r.number ≡ 1) where
    is_set : (set_read s at).number ≡ 1
    is_set = rw e at set

    -- what stands from the place up to the bracket is the address
    cut : (b : Bool) → same_text (take (at + r.address_length - at) (drop at s)) a ≡ b → same_text (address_at s at (set_read s at)) a ≡ b
    cut b h =
        let n : at + (set_read s at).address_length - at ≡ (set_read s at).address_length = omega arith in
        rw n at (rw e at h)

    pub hits : same_text (take (at + r.address_length - at) (drop at s)) a ≡ true → matched_at (n + 1) at r ≡ lookup s a
    unfolding seek
    hits h = rw e (rw (eq-eqb (set_read s at).number 1 is_set, cut true h) at sought.same)

    pub goes_on : same_text (take (at + r.address_length - at) (drop at s)) a ≡ false → Sought s a r.next (n + 1)
    unfolding seek
    goes_on h =
        let i : Inside s at r = read-inside s at r e set in
        let k : suc (length s - (n + 1)) ≡ length s - n = omega (arith, sought.few, i.next, i.fits) in
        record {
          few = omega (arith, sought.few, i.next);
          within = i.fits;
          same = ap (λ (m : ℕ). seek m s a r.next (n + 1)) k ∙ rw e (rw (eq-eqb (set_read s at).number 1 is_set, cut false h) at sought.same);
        }
