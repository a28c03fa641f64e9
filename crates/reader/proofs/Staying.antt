-- An end or a malformed set leaves the reader where it stands, whatever number of sets is asked for. Assumes nothing.
use mathlib.Core.Path.{◌≡◌, refl, sym, ap, ◌∙◌}
use mathlib.Core.Bool.{Bool, true, false, cond, ◌||◌}
use mathlib.Core.List.{List}
use Prim.Native.Nat.{ℕ, zero, suc, ◌-◌, ◌<◌}
use native.Mathlib.Numerals.{unary_clauses}
use native.Mathlib.Omega.{arith}
use lib.Dec.{leb}
use lib.ListN.{length, drop}
use Rattle.reading.specs.Sets.{SetRead, starts_with3, end_at, malformed_at, set_at, is_set, address_length, value_length, set_here, set_read}
use Rattle.reading.specs.Whole.{place_after}
use Rattle.reader.specs.declared.Reader.{Reader}
use Rattle.reader.specs.Walking.{yields, moved, set_after}

pub stays : (s : List ℕ) (at : ℕ) → ((set_read s at).number ≡ 1 → ⊥) → (set_read s at).next ≡ at
unfolding set_read set_here
stays s at h =
    by-case (leb (length s) at || starts_with3 33 13 10 (drop at s)) (is_set (drop at s) (address_length (drop at s)) (value_length (drop at s) (address_length (drop at s)))) (address_length (drop at s)) (value_length (drop at s) (address_length (drop at s))) h
  where
    by-case : (over good : Bool) (a v : ℕ) → ((cond over (end_at at) (cond good (set_at at a v) (malformed_at at))).number ≡ 1 → ⊥) → (cond over (end_at at) (cond good (set_at at a v) (malformed_at at))).next ≡ at
    by-case true good a v k = refl
    by-case false true a v k = absurd (k refl)
    by-case false false a v k = refl

-- the reader itself, with its data
pub reader-stays : (r : Reader) → ((yields r).number ≡ 1 → ⊥) → moved r ≡ r
reader-stays r h = λ i. record { «data» = r.«data»; at = stays r.«data».now r.at h i }

-- the same of what was read there
pub last-stays : (r : Reader) (s : SetRead) → s ≡ yields r → (s.number ≡ 1 → ⊥) → r ≡ moved r
last-stays r s e h = sym (reader-stays r (λ k. h (ap (λ (x : SetRead). x.number) e ∙ k)))

pub place-stays : (s : List ℕ) (n at : ℕ) → ((set_read s at).number ≡ 1 → ⊥) → place_after s n at ≡ at
unfolding place_after
place-stays s zero at h = refl
place-stays s (suc n) at h = rw (stays s at h) (place-stays s n at h)

pub place-turn : (s : List ℕ) (n at : ℕ) → 0 < n → place_after s n at ≡ place_after s (n - 1) (set_read s at).next
unfolding place_after
place-turn s zero at h = absurd (omega (arith, h))
place-turn s (suc n) at h = simp unary_clauses refl

-- what was read at the place reached is the answer
pub reached : (s : List ℕ) (n at : ℕ) (r : SetRead) → at ≡ place_after s n 0 → r ≡ set_read s at → record { start = at; set = r } ≡ set_after s n
reached s n at r p e = λ i. record { start = p i; set = (e ∙ ap (set_read s) p) i }
