-- A line stripped of its opening and then of what closes it. Assumes nothing.
use mathlib.Core.Path.{◌≡◌, refl, sym, ap, ◌∙◌}
use mathlib.Core.Bool.{Bool, true, false, ◌&&◌}
use mathlib.Core.List.{List, [], ◌∷◌}
use Prim.Native.Nat.{ℕ, ◌+◌, ◌-◌, ◌≤◌}
use native.Mathlib.Omega.{arith}
use borrow.Author.Tests.{le-leb, leb-true}
use lib.Dec.{leb, eqb}
use lib.ListN.{length, take, drop}
use lib.Pointwise.{pointwise}
use lib.Seq.{drop-drop}
use Rattle.std.proofs.Common.{Option, Some, None, MatchOption}
use Rattle.std.specs.Borrow.{Bor}
use Rattle.std.specs.Cmp.Lexicographic.{same_text as told_same, other_text}
use Rattle.text.specs.Classes.{same_text}
use Rattle.text.proofs.Matching.{same-is, same_self}
use Rattle.judging.specs.Lines.{is_line, value_in, ReadsLine}

different : (u v : List ℕ) → (u ≡ v → ⊥) → same_text u v ≡ false
different u v h = by_test (same_text u v) refl
  where
    by_test : (b : Bool) → same_text u v ≡ b → b ≡ false
    by_test true e = absurd (h (same-is u v e))
    by_test false e = refl

alike : (u v : List ℕ) → u ≡ v → same_text u v ≡ true
alike u v e = rw e (same_self v)

not_both : (b : Bool) → (b && false) ≡ false
not_both true = refl
not_both false = refl

-- `)` CR LF
abbrev pub closing : List ℕ
closing = 41 ∷ 13 ∷ 10 ∷ []

module _ (o s : List ℕ) where
  pub other-opening : (take (length o) s ≡ o → ⊥) → is_line o s ≡ false
  unfolding is_line
  other-opening h = rw (different (take (length o) s) o h) (not_both (leb (length o + 3) (length s)))

  -- what is left behind the opening
  module _ (x : List ℕ) (is : x ≡ drop (length o) s) (long : length x + length o ≡ length s) where
    end-is : length o + 3 ≤ length s → drop (length s - 3) s ≡ drop (length x - 3) x
    end-is h =
        ap (λ (n : ℕ). drop n s) {x = length s - 3} {y = length o + (length x - 3)} (omega arith)
        ∙ sym (drop-drop (length x - 3) (length o) s)
        ∙ ap (drop (length x - 3)) (sym is)

    other-close : (drop (length x - 3) x ≡ closing → ⊥) → is_line o s ≡ false
    unfolding is_line
    other-close h = by_length (leb (length o + 3) (length s)) refl
      where
        by_length : (b : Bool) → leb (length o + 3) (length s) ≡ b → (b && (same_text (take (length o) s) o && same_text (drop (length s - 3) s) closing)) ≡ false
        by_length true e = rw (end-is (leb-true (length o + 3) (length s) e), different (drop (length x - 3) x) closing h) (not_both (same_text (take (length o) s) o))
        by_length false e = refl

    line-is : take (length o) s ≡ o → 3 ≤ length x → drop (length x - 3) x ≡ closing → is_line o s ≡ true
    unfolding is_line
    line-is f n e =
        let enough : length o + 3 ≤ length s = omega (arith, long, n) in
        rw (le-leb (length o + 3) (length s) enough, alike (take (length o) s) o f, alike (drop (length s - 3) s) closing (end-is enough ∙ e))

    value-is : take (length x - 3) x ≡ value_in o s
    unfolding value_in
    value-is = rw is (ap (λ (n : ℕ). take n (drop (length o) s)) {x = length (drop (length o) s) - 3} {y = length s - (length o + 3)} (omega (arith, long, ap length is)))

    pub closed : (r : Option (Bor (List ℕ))) → take (length o) s ≡ o
        → MatchOption r (pointwise eqb (drop (length x - 3) x) closing ≡ false)
        (λ y. (pointwise eqb (drop (length x - 3) x) closing ≡ true) × (y.now ≡ take (length x - 3) x) × (length y.now + 3 ≡ length x)) → ReadsLine o s r
    closed None f m = other-close (other_text (drop (length x - 3) x) closing (sym m))
    closed (Some y) f m = (line-is f (omega (arith, m.2)) (told_same (drop (length x - 3) x) closing (sym m.0)), m.1 ∙ value-is)
