-- The total keeps up with the four counters: what one of them grows by, the total grows by. Assumes nothing.
use Rattle.std.proofs.Common.{◌≡◌, ℕ, zero, suc, ◌+◌, ◌%◌, ◌<◌, List, [], ◌∷◌, length, get_or, set, sym, ◌∙◌, arith}
use native.Mathlib.Nat.{mod-add-mod, add-mod-mod}
use Rattle.state.specs.WellFormed.{sum_of}

-- one of them anew: the others, and that one
others : (s : List ℕ) (i n : ℕ) → i < length s → sum_of (set s i n) ≡ sum_of (set s i 0) + n
unfolding sum_of
others [] i n h = absurd (omega arith)
others (x ∷ s) zero n h = omega arith
others (x ∷ s) (suc i) n h = omega (arith, others s i n (omega arith))

itself : (s : List ℕ) (i : ℕ) → i < length s → sum_of s ≡ sum_of (set s i 0) + get_or s i 0
unfolding sum_of
itself [] i h = absurd (omega arith)
itself (x ∷ s) zero h = omega arith
itself (x ∷ s) (suc i) h = omega (arith, itself s i (omega arith))

-- a sum rolls over as its part does
rolls : (end rest was n : ℕ) → (rest + (was + n) % end) % end ≡ ((rest + was) % end + n) % end
rolls end rest was n =
    add-mod-mod rest (was + n) end ∙ rw (along rest was n) (sym (mod-add-mod (rest + was) end n))
  where
    along : (a b c : ℕ) → a + (b + c) ≡ (a + b) + c
    along a b c = omega arith

pub grows-alike : (end : ℕ) (s : List ℕ) (i n : ℕ) → i < length s
    → sum_of (set s i ((get_or s i 0 + n) % end)) % end ≡ (sum_of s % end + n) % end
grows-alike end s i n h =
    rw (others s i ((get_or s i 0 + n) % end) h, itself s i h) (rolls end (sum_of (set s i 0)) (get_or s i 0) n)
