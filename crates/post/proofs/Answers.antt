-- What the check answers: any two right answers are equal, and a text longer than the longest post is answered by its beginning.
-- Assumes nothing.
use Rattle.std.proofs.Common.{◌≡◌, ℕ, ◌+◌, ◌-◌, ◌*◌, ◌<◌, ◌≤◌, List, length, take, drop, sym, refl, ap, ◌∙◌, inl, inr, arith, length-drop, length-take-le, take_all}
use Rattle.text.specs.Beginnings.{Longest}
use Rattle.text.proofs.Beginnings.{one-longest, longest-with, longest-whole}
use Rattle.post.specs.declared.Refusal.{Refusal}
use Rattle.post.specs.declared.Refusal.TheVariants.{NoPost, NoEdition}
use Rattle.post.specs.Refusals.{refusal_number}
use Rattle.post.specs.Grammar.{last_line, IsPost}
use Rattle.post.specs.Place.{CheckedAs}
use Rattle.post.specs.Rest.{Rest, Scanned}
use Rattle.post.proofs.Reading.{post-rest, rest-post, good-rising, length-post, count_entries}
use Rattle.post.proofs.Places.{ends-post, no-rest-here}

pub longest-post : (tables : ℕ) (text : List ℕ) (k : ℕ) → Longest (Rest tables 0) text k → Longest (IsPost tables) text k
longest-post tables text k g = longest-with (Rest tables 0) (IsPost tables) (rest-post tables) (post-rest tables) text k g

-- no refusal has the number of a post
pub not-done : (r : Refusal) → refusal_number r ≡ 1 → ⊥
not-done (NoPost place) e = omega arith
not-done NoEdition e = omega arith

-- any two answers that are right are equal
pub one_answer : (tables : ℕ) (text : List ℕ) (n p m q : ℕ) → CheckedAs tables text n p → CheckedAs tables text m q → (n ≡ m) × (p ≡ q)
unfolding CheckedAs
one_answer tables text n p m q (inl a) (inl b) = (a.done ∙ sym b.done, a.no_place ∙ sym b.no_place)
one_answer tables text n p m q (inl a) (inr b) = absurd (b.no-post a.is-post)
one_answer tables text n p m q (inr a) (inl b) = absurd (a.no-post b.is-post)
one_answer tables text n p m q (inr a) (inr b) = (a.refused ∙ sym b.refused, one-longest (IsPost tables) text p q a.longest b.longest)

-- no post is longer than 36 a table and 3
pub longest-text : (tables : ℕ) (text : List ℕ) → IsPost tables text → length text ≤ 36 * tables + 3
longest-text tables text p =
    let g = good-rising tables p.entries p.good in
    omega (arith, ap length p.spelt, length-post tables 0 p.entries g, count_entries tables 0 p.entries (omega arith) g)

-- a text that is longer than every post is answered as its beginning is, if that is longer too
module _ (tables size : ℕ) (text : List ℕ) (more : 36 * tables + 3 < size) (long : size ≤ length text) where
  pub long-answer : (number place : ℕ) → CheckedAs tables (take size text) number place → CheckedAs tables text number place
  unfolding CheckedAs
  long-answer number place (inl a) = absurd (omega (arith, longest-text tables (take size text) a.is-post, length-take-le size text long))
  long-answer number place (inr b) =
      inr
      (record {
        refused = b.refused;
        no-post = λ p. (omega (arith, longest-text tables text p));
        longest = longest-whole (IsPost tables) size text (λ s p. (omega (arith, longest-text tables s p))) long place b.longest;
      })

-- what is left of a text, lent from a place on
pub part-is : (text : List ℕ) (at : ℕ) → take (length text - at) (drop at text) ≡ drop at text
part-is text at = take_all (length text - at) (drop at text) (omega (arith, length-drop at text))

-- a post, however it was seen to be one
pub answers-post : (tables : ℕ) (text : List ℕ) → IsPost tables text → CheckedAs tables text 1 0
unfolding CheckedAs
answers-post tables text p = inl (record { done = refl; no_place = refl; is-post = p })

-- the answers, from where the lines end
module _ (tables at above stray : ℕ) (text : List ℕ) (few : tables < 100) (r : Scanned tables text at above stray) where
  pub accepted : 0 < above → drop at text ≡ last_line → CheckedAs tables text 1 0
  accepted h e = answers-post tables text (rest-post tables text (r.passed.onward (ends-post tables above (drop at text) h e)))

  pub refused : (k : ℕ) → (0 < above → drop at text ≡ last_line → ⊥) → Longest (Rest tables above) (drop at text) k → CheckedAs tables text 20 (at + k)
  unfolding CheckedAs
  refused k no_last g =
      inr
      (record {
        refused = refl;
        no-post = λ p. no-rest-here tables above (drop at text) few r.stops no_last (r.passed.back (post-rest tables text p));
        longest = longest-post tables text (at + k) (r.passed.longest k g);
      })
