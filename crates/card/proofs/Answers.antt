-- What the check answers, and that any two right answers are equal. Assumes nothing.
use mathlib.Core.Path.{◌≡◌, refl, sym, ◌∙◌}
use mathlib.Core.Logic.{inl, inr}
use mathlib.Core.List.{List}
use Prim.Native.Nat.{ℕ, ◌+◌, ◌*◌, ◌<◌, ◌≤◌}
use native.Mathlib.Omega.{arith}
use lib.ListN.{length, take, drop, length-drop, drop_of_length-le}
use lib.Seq.{length-take-le}
use Rattle.text.proofs.Beginnings.{one-longest, longest-whole}
use Rattle.card.specs.Grammar.{IsCard}
use Rattle.card.specs.Place.{CheckedAs}
use Rattle.card.specs.Columns.{account_column, table_column, FirstStray}
use Rattle.card.specs.Fields.{Fields, Scanned}
use Rattle.card.proofs.Fields.{length-card, tables-bound}
use Rattle.card.proofs.Places.{no_fields, longest-account, no-account, longest-table, no-field-here, strays-there}

-- any two answers that are right are equal
pub one_answer : (tables : ℕ) (text : List ℕ) (n p m q : ℕ) → CheckedAs tables text n p → CheckedAs tables text m q → (n ≡ m) × (p ≡ q)
unfolding CheckedAs
one_answer tables text n p m q (inl a) (inl b) = (a.done ∙ sym b.done, a.no_place ∙ sym b.no_place)
one_answer tables text n p m q (inl a) (inr b) = absurd (b.no-card a.is-card)
one_answer tables text n p m q (inr a) (inl b) = absurd (a.no-card b.is-card)
one_answer tables text n p m q (inr a) (inr b) = (a.refused ∙ sym b.refused, one-longest (IsCard tables) text p q a.longest b.longest)

-- no card is longer than 28 a table and 13
pub longest-card : (tables : ℕ) (text : List ℕ) → IsCard tables text → length text ≤ 28 * tables + 13
longest-card tables text p = omega (arith, length-card tables text p, tables-bound tables text p)

-- a text that is longer than every card is answered as its beginning is, if that is longer too
module _ (tables size : ℕ) (text : List ℕ) (more : 28 * tables + 13 < size) (long : size ≤ length text) where
  pub long-answer : (number place : ℕ) → CheckedAs tables (take size text) number place → CheckedAs tables text number place
  unfolding CheckedAs
  long-answer number place (inl a) = absurd (omega (arith, longest-card tables (take size text) a.is-card, length-take-le size text long))
  long-answer number place (inr b) =
      inr
      (record {
        refused = b.refused;
        no-card = λ p. (omega (arith, longest-card tables text p));
        longest = longest-whole (IsCard tables) size text (λ s p. (omega (arith, longest-card tables s p))) long place b.longest;
      })

-- the three ways out
pub answers-account : (tables : ℕ) (text : List ℕ) (place : ℕ) → FirstStray account_column 13 text place → place < 13 → CheckedAs tables text 40 place
unfolding CheckedAs
answers-account tables text place f h = inr (record { refused = refl; no-card = no-account tables text place f h; longest = longest-account tables text place f h })

module _ (tables at above : ℕ) (text : List ℕ) (r : Scanned tables text at above) where
  pub answers-card : at ≡ length text → CheckedAs tables text 1 0
  unfolding CheckedAs
  answers-card e =
      let f : Fields tables above (drop at text) = rw (drop_of_length-le text {i = at} (omega arith)) (no_fields tables above) in
      inl (record { done = refl; no_place = refl; is-card = r.passed.onward f })

  pub answers-field : (k : ℕ) → (at ≡ length text → ⊥) → FirstStray (table_column tables above) 28 (drop at text) k → CheckedAs tables text 40 (at + k)
  unfolding CheckedAs
  answers-field k other f =
      let in-text = r.passed.in-text in
      let some : at < length text = below at (length text) in-text other in
      let st = r.stops some in
      inr
      (record {
        refused = refl;
        no-card = λ c. no-field-here tables above (drop at text) (omega (arith, length-drop at text)) st (r.passed.back c);
        longest = r.passed.longest k (longest-table tables above (drop at text) k f (strays-there tables above (drop at text) k st f));
      })
    where
      below : (a b : ℕ) → a ≤ b → (a ≡ b → ⊥) → a < b
      below a b h o = omega (arith, o)
