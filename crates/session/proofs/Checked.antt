-- What the check of a post says, taken apart; and how many lines a post has. Assumes nothing.
use mathlib.Core.Path.{◌≡◌, refl, sym, ap, ◌∙◌}
use mathlib.Core.Logic.{inl, inr}
use mathlib.Core.Bool.{true}
use mathlib.Core.List.{List, [], ◌∷◌}
use Prim.Native.Nat.{ℕ, ◌+◌, ◌*◌, ◌/◌, ◌%◌, ◌<◌}
use native.Mathlib.Omega.{arith}
use lib.ListN.{length}
use Rattle.post.specs.Grammar.{Entry, rising, good_entries, IsPost}
use Rattle.post.specs.Place.{Refused, CheckedAs}
use Rattle.post.proofs.Reading.{length-post, count_entries}

pub not-post : (tables : ℕ) (text : List ℕ) (number place : ℕ) → CheckedAs tables text number place → (number ≡ 1 → ⊥) → Refused tables text number place
unfolding CheckedAs
not-post tables text number place (inl a) other = absurd (other a.done)
not-post tables text number place (inr r) other = r

pub a-post : (tables : ℕ) (text : List ℕ) (number place : ℕ) → CheckedAs tables text number place → number ≡ 1 → IsPost tables text
unfolding CheckedAs
a-post tables text number place (inl a) done = a.is-post
a-post tables text number place (inr r) done = absurd (omega (arith, done, r.refused))

good-rise : (tables : ℕ) (es : List Entry) → good_entries tables es ≡ true → rising tables 0 es ≡ true
unfolding good_entries rising
good-rise tables [] h = refl
good-rise tables (e ∷ es) h = h

pub lines-counted : (tables : ℕ) (text : List ℕ) (p : IsPost tables text) → tables < 100 → length text / 36 % 256 ≡ length p.entries
lines-counted tables text p small =
    let rise = good-rise tables p.entries p.good in
    let long : length text ≡ 36 * length p.entries + 3 = ap length (sym p.spelt) ∙ length-post tables 0 p.entries rise in
    let few = count_entries tables 0 p.entries (omega arith) rise in
    omega (arith, long, few, small)
