-- What the export answers, from what the check does; and any two right answers are equal, with every byte of the buffer.
-- Assumes nothing.
use mathlib.Core.Path.{◌≡◌, refl, sym, ap, ap₂, ◌∙◌}
use mathlib.Core.Logic.{◌⊎◌, inl, inr}
use mathlib.Core.List.{List}
use Prim.Native.Nat.{ℕ, ◌+◌, ◌*◌, ◌/◌, ◌<◌, ◌≤◌}
use native.Mathlib.Omega.{arith}
use lib.ListN.{length, take}
use lib.Seq.{length-take-le}
use Rattle.text.specs.Writing.{stored, holding}
use Rattle.text.proofs.Beginnings.{one-longest}
use Rattle.text.proofs.Writing.{stored-holding}
use Rattle.std.specs.Prelude.{Result, Ok, Err, IsErrAnd}
use Rattle.post.specs.declared.Refusal as post
use Rattle.post.specs.declared.Refusal.TheVariants as check
use Rattle.post.specs.Refusals as checked
use Rattle.post.specs.Grammar.{IsPost}
use Rattle.post.specs.Place.{Refused, CheckedAs}
use Rattle.post.proofs.Reading.{good-rising, one-reading, length-post, count_entries}
use Rattle.post.proofs.Answers.{longest-text, long-answer}
use Rattle.export.specs.declared.Refusal.{Refusal}
use Rattle.export.specs.declared.Refusal.TheVariants.{NoPost, NoRoom, NoEdition}
use Rattle.export.specs.Refusals.{from_post, refusal_number, answer_number, answer_length, answer_place}
use Rattle.export.specs.Frames.{frames_of, ExportedAs}
use Rattle.export.specs.Changed.{changed_lines}
use Rattle.export.proofs.Lines.{length-lines, lines_are}

module _ (tables : ℕ) (text : List ℕ) (number place : ℕ) where
  -- the two things that a check's answer can say
  pub post-of : CheckedAs tables text number place → number ≡ 1 → IsPost tables text
  unfolding CheckedAs
  post-of (inl a) e = a.is-post
  post-of (inr b) e = absurd (omega (arith, b.refused))

  refusal-of : CheckedAs tables text number place → (number ≡ 1 → ⊥) → Refused tables text number place
  unfolding CheckedAs
  refusal-of (inl a) h = absurd (h a.done)
  refusal-of (inr b) h = b

  pub answers-20 : (out : List ℕ) → CheckedAs tables text number place → (number ≡ 1 → ⊥) → ExportedAs tables text out 20 0 place out
  unfolding ExportedAs
  answers-20 out c h =
      let r = refusal-of c h in
      inr (inr (record { refused = refl; no-post = r.no-post; longest = r.longest; no_length = refl; kept = refl }))

-- no refusal has the number of what is done
pub not-done : (r : Refusal) → refusal_number r ≡ 1 → ⊥
not-done (NoPost place) e = omega arith
not-done NoRoom e = omega arith
not-done NoEdition e = omega arith

-- what the check refuses, the export does
pub answers-refused : (tables : ℕ) (text out : List ℕ) (r : post.Refusal) (answer : Result ℕ Refusal) → CheckedAs tables text (checked.refusal_number r) (checked.refusal_place r)
    → IsErrAnd answer (λ e. e ≡ from_post r) → ExportedAs tables text out (answer_number answer) (answer_length answer) (answer_place answer) out
answers-refused tables text out r (Ok length) c e = absurd e
answers-refused tables text out (check.NoPost place) (Err why) c e = rw e (answers-20 tables text 20 place out c (λ z. omega arith))
answers-refused tables text out check.NoEdition (Err why) c e = absurd (omega (arith, (refusal-of tables text 16 0 c (λ z. omega arith)).refused))

module _ (tables : ℕ) (text out : List ℕ) (p : IsPost tables text) where
  lines_of : length text / 36 ≡ length p.entries
  lines_of = omega (arith, ap length p.spelt, length-post tables 0 p.entries (good-rising tables p.entries p.good))

  pub lines_fit : 36 * (length text / 36) ≤ length text
  lines_fit = omega arith

  pub answers-21 : length out < 36 * (length text / 36) → ExportedAs tables text out 21 0 0 out
  unfolding ExportedAs
  answers-21 h =
      inr (inl (record { refused = refl; is-post = p; short = omega (arith, lines_of); no_length = refl; no_place = refl; kept = refl }))

  pub answers-1 : (after : List ℕ) → 36 * (length text / 36) ≤ length out → after ≡ stored out 0 (changed_lines text (length text / 36))
      → ExportedAs tables text out 1 (36 * (length text / 36)) 0 after
  unfolding ExportedAs
  answers-1 after h w =
      let f : changed_lines text (length text / 36) ≡ frames_of p.entries =
      ap₂ changed_lines (sym p.spelt) lines_of ∙ lines_are tables 0 p.entries (good-rising tables p.entries p.good) in
      let room : length (frames_of p.entries) ≤ length out = omega (arith, ap length f, length-lines text (length text / 36)) in
      inl
      (record {
        done = refl;
        is-post = p;
        room = omega (arith, lines_of);
        long = ap (λ (k : ℕ). 36 * k) lines_of;
        no_place = refl;
        written = w ∙ ap (stored out 0) f ∙ stored-holding out (frames_of p.entries) room;
      })

-- a text has the entries of one post
same_entries : (tables : ℕ) (text : List ℕ) → tables < 100 → (p q : IsPost tables text) → p.entries ≡ q.entries
same_entries tables text few p q = one-reading tables p.entries q.entries few p.good q.good (p.spelt ∙ sym q.spelt)

-- any two answers that are right are equal, with every byte of the buffer
pub one-export : (tables : ℕ) (text out : List ℕ) (n s p : ℕ) (a : List ℕ) (m t q : ℕ) (b : List ℕ) → tables < 100
    → ExportedAs tables text out n s p a → ExportedAs tables text out m t q b → (n ≡ m) × (s ≡ t) × (p ≡ q) × (a ≡ b)
unfolding ExportedAs
one-export tables text out n s p a m t q b few (inl x) (inl y) =
    let e = same_entries tables text few x.is-post y.is-post in (
      x.done ∙ sym y.done,
      x.long ∙ ap (λ l. 36 * length l) e ∙ sym y.long,
      x.no_place ∙ sym y.no_place,
      x.written ∙ ap (λ l. holding out (frames_of l)) e ∙ sym y.written,
    )
one-export tables text out n s p a m t q b few (inl x) (inr (inl y)) =
    absurd (omega (arith, x.room, y.short, ap length (same_entries tables text few x.is-post y.is-post)))
one-export tables text out n s p a m t q b few (inl x) (inr (inr y)) = absurd (y.no-post x.is-post)
one-export tables text out n s p a m t q b few (inr (inl x)) (inl y) =
    absurd (omega (arith, y.room, x.short, ap length (same_entries tables text few x.is-post y.is-post)))
one-export tables text out n s p a m t q b few (inr (inl x)) (inr (inl y)) =
    (x.refused ∙ sym y.refused, x.no_length ∙ sym y.no_length, x.no_place ∙ sym y.no_place, x.kept ∙ sym y.kept)
one-export tables text out n s p a m t q b few (inr (inl x)) (inr (inr y)) = absurd (y.no-post x.is-post)
one-export tables text out n s p a m t q b few (inr (inr x)) (inl y) = absurd (x.no-post y.is-post)
one-export tables text out n s p a m t q b few (inr (inr x)) (inr (inl y)) = absurd (x.no-post y.is-post)
one-export tables text out n s p a m t q b few (inr (inr x)) (inr (inr y)) =
    (x.refused ∙ sym y.refused, x.no_length ∙ sym y.no_length, one-longest (IsPost tables) text p q x.longest y.longest, x.kept ∙ sym y.kept)

lines-bound : (tables : ℕ) (text : List ℕ) (p : IsPost tables text) → length p.entries ≤ tables
lines-bound tables text p = omega (arith, count_entries tables 0 p.entries (omega arith) (good-rising tables p.entries p.good))

-- no more frames than tables
pub frames-bound : (tables : ℕ) (text out : List ℕ) (n s p : ℕ) (a : List ℕ) → ExportedAs tables text out n s p a → s ≤ 36 * tables
unfolding ExportedAs
frames-bound tables text out n s p a (inl x) = omega (arith, x.long, lines-bound tables text x.is-post)
frames-bound tables text out n s p a (inr (inl x)) = omega (arith, x.no_length)
frames-bound tables text out n s p a (inr (inr x)) = omega (arith, x.no_length)

-- a buffer for as many frames as there are tables is never too small
pub room-enough : (tables : ℕ) (text out : List ℕ) (n s p : ℕ) (a : List ℕ) → 36 * tables ≤ length out → ExportedAs tables text out n s p a → (n ≡ 1) ⊎ (n ≡ 20)
unfolding ExportedAs
room-enough tables text out n s p a h (inl x) = inl x.done
room-enough tables text out n s p a h (inr (inl x)) = absurd (omega (arith, x.short, lines-bound tables text x.is-post))
room-enough tables text out n s p a h (inr (inr x)) = inr x.refused

-- a text that is longer than every post is answered as its beginning is, if that is longer too
pub long-export : (tables size : ℕ) (text out : List ℕ) (n s p : ℕ) (a : List ℕ) → 36 * tables + 3 < size → size ≤ length text
    → ExportedAs tables (take size text) out n s p a → ExportedAs tables text out n s p a
unfolding ExportedAs CheckedAs
long-export tables size text out n s p a more long (inl x) =
    absurd (omega (arith, longest-text tables (take size text) x.is-post, length-take-le size text long))
long-export tables size text out n s p a more long (inr (inl x)) =
    absurd (omega (arith, longest-text tables (take size text) x.is-post, length-take-le size text long))
long-export tables size text out n s p a more long (inr (inr x)) =
    let r = refusal-of tables text 20 p (long-answer tables size text more long 20 p (inr (record { refused = refl; no-post = x.no-post; longest = x.longest }))) (λ e. omega arith) in
    inr (inr (record { refused = x.refused; no-post = r.no-post; longest = r.longest; no_length = x.no_length; kept = x.kept }))
