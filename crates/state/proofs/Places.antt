-- The places of an archive, one after the other: a flag, with what is left of the places, says it of all twelve. Assumes nothing.
use Rattle.std.proofs.Common.{◌≡◌, ℕ, zero, suc, ◌+◌, ◌<◌, ◌≤◌, Bool, true, ◌&&◌, leb, List, [], ◌∷◌, length, get_or, take, drop, sym, refl, ap, ◌∙◌, arith, drop_of_length-le, le-ltb, lt-ltb, eq-eqb}
use mathlib.Core.Bool.{and-true}
use Rattle.line.proofs.Runs.{and_assoc}
use Rattle.clock.specs.Seconds.{real_stamp}
use Rattle.values.specs.Family.{counter_end, export_end}
use Rattle.state.specs.declared.Period.{Period}
use Rattle.state.specs.declared.Archive.{Archive}
use Rattle.state.specs.Sizes.{period_places}
use Rattle.state.specs.WellFormed.{both_below, period_good, unused, place_good, every_period, archive_good}
use Rattle.state.proofs.Archives.{period-next}

-- a place among the kept, and one behind them
module _ (family count i : ℕ) (p : Period) (k : Bool) where
  pub place_kept : (end out : ℕ) → i < count → end ≡ counter_end family → out ≡ export_end family → k ≡ (real_stamp p.closed && both_below end out p) → k ≡ place_good family count i p
  unfolding place_good period_good
  place_kept end out l e o is = rw (lt-ltb i count l) (is ∙ ap (λ (n : ℕ). real_stamp p.closed && both_below n out p) e ∙ ap (λ (n : ℕ). real_stamp p.closed && both_below (counter_end family) n p) o)

  pub place-unused : count ≤ i → k ≡ unused p → k ≡ place_good family count i p
  unfolding place_good
  place-unused l is = rw (le-ltb i count l) is

-- the places from the i-th on, where so many periods are kept
unfoldable pub places_good : ℕ → ℕ → ℕ → List Period → Bool
places_good family count i [] = true
places_good family count i (p ∷ ps) = place_good family count i p && places_good family count (i + 1) ps

-- behind those that are kept all are unused
none_kept : (family count i : ℕ) (ps : List Period) → count ≤ i → places_good family count i ps ≡ every_period unused ps
unfolding places_good place_good every_period
none_kept family count i [] l = refl
none_kept family count i (p ∷ ps) l = rw (le-ltb i count l) (ap (λ (z : Bool). unused p && z) (none_kept family count (i + 1) ps (omega (arith, l))))

-- k more are kept, and those behind them are unused
kept : (family count k i : ℕ) (ps : List Period) → count ≡ i + k
    → places_good family count i ps ≡ (every_period (period_good family) (take k ps) && every_period unused (drop k ps))
unfolding places_good place_good every_period
kept family count zero i ps e = none_kept family count i ps (omega (arith, e))
kept family count (suc k) i [] e = refl
kept family count (suc k) i (p ∷ ps) e =
    rw (lt-ltb i count (omega (arith, e)))
    (ap (λ (z : Bool). period_good family p && z) (kept family count k (i + 1) ps (omega (arith, e)))
    ∙ sym (and_assoc (period_good family p) (every_period (period_good family) (take k ps)) (every_period unused (drop k ps))))

-- before the first place the flag says whether the count is good
pub places-start : (family : ℕ) (a : Archive) (ok : Bool) → length a.periods ≡ period_places → ok ≡ leb a.count period_places
    → (ok && places_good family a.count 0 (drop 0 a.periods)) ≡ archive_good family a
unfolding archive_good
places-start family a ok long e =
    rw (e, eq-eqb _ _ long, and-true (leb a.count period_places)) (ap (λ (z : Bool). leb a.count period_places && z) (kept family a.count a.count 0 a.periods (omega arith)))

module _ (family count : ℕ) (s : List Period) (i : ℕ) (ok whole : Bool) where
  pub places-turn : (d : Period) (now : Bool) → i < length s → now ≡ (ok && place_good family count i (get_or s i d)) → (ok && places_good family count i (drop i s)) ≡ whole
      → (now && places_good family count (i + 1) (drop (i + 1) s)) ≡ whole
  unfolding places_good
  places-turn d now h e inv =
      rw e (and_assoc ok (place_good family count i (get_or s i d)) (places_good family count (i + 1) (drop (i + 1) s)) ∙ (rw (period-next i s d h) at inv))

  pub places-end : length s ≤ i → (ok && places_good family count i (drop i s)) ≡ whole → ok ≡ whole
  unfolding places_good
  places-end h inv = sym (and-true ok) ∙ (rw (drop_of_length-le s h) at inv)
