-- What the card exporter shows, from what the reader answers; a text has one showing; and a text longer than every card is shown as its
-- beginning is. Assumes nothing.
use mathlib.Core.Path.{◌≡◌, refl, sym, ap, ap₂, ◌∙◌}
use mathlib.Core.Bool.{Bool, true, false}
use mathlib.Core.Logic.{◌⊎◌, inl, inr, ⊎_elim}
use mathlib.Core.List.{List}
use Prim.Native.Nat.{ℕ, ◌+◌, ◌*◌, ◌<◌, ◌≤◌}
use native.Mathlib.Nat.{zero-add}
use native.Mathlib.Omega.{arith}
use lib.ListN.{length, take}
use lib.Seq.{length-take-le}
use Rattle.text.proofs.Beginnings.{one-longest, longest-whole}
use Rattle.text.specs.Writing.{stored}
use Rattle.text.proofs.Writing.{stored-holding}
use Rattle.numerals.specs.Numerals.{number_line}
use Rattle.numerals.proofs.Widths.{line-few}
use Rattle.numerals.proofs.Begun.{begun}
use Rattle.values.specs.Edition.{is_edition, tables_of}
use Rattle.values.proofs.Editions.{tables-most}
use Rattle.card.specs.Grammar.{IsCard}
use Rattle.card.specs.Frames.{card_frames, Done, NoRoom, NoCard, ReadAs, ReadFor}
use Rattle.card.proofs.Fields.{one-card, tables-bound}
use Rattle.card.proofs.Answers.{longest-card}
use Rattle.card.proofs.Frames.{length-card-frames}
use Rattle.cardexporting.specs.Shown.{CardShown, ShowsCard, ShownFor}

module _ (tables : ℕ) (text out : List ℕ) (number size place : ℕ) (after : List ℕ) (e : ReadAs tables text out number size place after) where
  done-shows : Done tables text out number size place after → ShowsCard tables text out 1 size after
  unfolding CardShown
  done-shows d =
      record {
        shown = card_frames d.is-card.account d.is-card.entries;
        is = inl (record { done = refl; is-card = d.is-card; all = refl });
        long = d.long ∙ sym (length-card-frames tables text d.is-card);
        held = d.written;
      }

  pub shows-frames : number ≡ 1 → ShowsCard tables text out 1 size after
  unfolding ReadAs
  shows-frames h =
      ⊎_elim done-shows (λ r. ⊎_elim (λ n. absurd (omega (arith, n.refused))) (λ n. absurd (omega (arith, n.refused))) r) e

  refusal-shows : 42 ≤ length out → (count : ℕ) → count ≡ 0 + length (number_line 40 place) → (last : List ℕ) → last ≡ stored after 0 (number_line 40 place)
      → NoCard tables text out number size place after → ShowsCard tables text out 40 count last
  unfolding CardShown
  refusal-shows room count k last w n =
      record {
        shown = number_line 40 place;
        is = inr (record { refused = refl; no-card = n.no-card; place = place; longest = n.longest; all = refl });
        long = k ∙ zero-add (length (number_line 40 place));
        held = w ∙ ap (λ (b : List ℕ). stored b 0 (number_line 40 place)) n.kept ∙ stored-holding out (number_line 40 place) (omega (arith, line-few 40 place));
      }

  -- a buffer for the frames of all tables is never too small
  too_small : 19 + 36 * tables ≤ length out → NoRoom tables text out number size place after → ⊥
  too_small all n = omega (arith, n.short, tables-bound tables text n.is-card)

  pub shows-place : (number ≡ 1 → ⊥) → 19 + 36 * tables ≤ length out → 42 ≤ length out → (count : ℕ) → count ≡ 0 + length (number_line 40 place)
      → (last : List ℕ) → last ≡ stored after 0 (number_line 40 place) → ShowsCard tables text out 40 count last
  unfolding ReadAs
  shows-place h all room count k last w =
      ⊎_elim (λ d. absurd (h d.done)) (λ r. ⊎_elim (λ n. absurd (too_small all n)) (refusal-shows room count k last w) r) e

refusal-number : (tables : ℕ) (text out : List ℕ) (number size place : ℕ) (after : List ℕ) → ReadAs tables text out number size place after → (number ≡ 1 → ⊥)
    → 19 + 36 * tables ≤ length out → number ≡ 40
unfolding ReadAs
refusal-number tables text out number size place after (inl d) h all = absurd (h d.done)
refusal-number tables text out number size place after (inr (inl n)) h all = absurd (omega (arith, n.short, tables-bound tables text n.is-card))
refusal-number tables text out number size place after (inr (inr n)) h all = n.refused

-- the same for an edition, of what the reader answers
module _ (edition : ℕ) (text out : List ℕ) (room : 919 ≤ length out) where
  pub shows-done : (size : ℕ) (after : List ℕ) → ReadFor edition text out 1 size 0 after → ShownFor edition text out 1 size after
  shows-done size after x =
      record { none = λ e. absurd (omega (arith, (x.none e).0)); some = λ e. shows-frames (tables_of edition) text out 1 size 0 after (x.some e) refl }

  pub shows-refused : (number place : ℕ) (after : List ℕ) → (number ≡ 1 → ⊥) → ReadFor edition text out number 0 place after → (count : ℕ)
      → count ≡ 0 + length (number_line number place) → (last : List ℕ) → last ≡ stored after 0 (number_line number place) → ShownFor edition text out number count last
  shows-refused number place after h x count k last w =
      record {
        none =
            λ e.
            let n = x.none e in
            let line : number_line number place ≡ number_line 16 0 = ap₂ number_line n.0 n.2 in (
              n.0,
              k ∙ zero-add (length (number_line number place)) ∙ ap length line,
              w ∙ ap₂ (λ (b l : List ℕ). stored b 0 l) n.3 line ∙ stored-holding out (number_line 16 0) (omega (arith, line-few 16 0)),
            );
        some =
            λ e.
            let all : 19 + 36 * tables_of edition ≤ length out = omega (arith, tables-most edition) in
            let n : number ≡ 40 = refusal-number (tables_of edition) text out number 0 place after (x.some e) h all in
            let s : ShowsCard (tables_of edition) text out 40 count last =
            shows-place (tables_of edition) text out number 0 place after (x.some e) h all (omega arith) count
            (k ∙ ap (λ (m : ℕ). 0 + length (number_line m place)) n) last (w ∙ ap (λ (m : ℕ). stored after 0 (number_line m place)) n) in
            rw n s;
      }

-- what is shown stands at the front of the buffer
pub shown-within : (edition : ℕ) (text out : List ℕ) (number size : ℕ) (after : List ℕ) → ShownFor edition text out number size after
    → (size ≤ length after) × (size ≡ length (take size after))
shown-within edition text out number size after s = ⊎_elim
    (λ e. let x = s.some e in begun out x.shown size x.long after x.held)
    (λ e. let x = s.none e in begun out (number_line 16 0) size x.1 after x.2) (one-way (is_edition edition))
  where
    one-way : (b : Bool) → (b ≡ true) ⊎ (b ≡ false)
    one-way true = inl refl
    one-way false = inr refl

-- a text has one showing
pub one-showing : (tables : ℕ) (text : List ℕ) (n : ℕ) (s : List ℕ) (m : ℕ) (t : List ℕ) → CardShown tables text n s → CardShown tables text m t → (n ≡ m) × (s ≡ t)
unfolding CardShown
one-showing tables text n s m t (inl x) (inl y) =
    let same = one-card tables text x.is-card y.is-card in
    (x.done ∙ sym y.done, x.all ∙ ap₂ card_frames same.0 same.1 ∙ sym y.all)
one-showing tables text n s m t (inl x) (inr y) = absurd (y.no-card x.is-card)
one-showing tables text n s m t (inr x) (inl y) = absurd (x.no-card y.is-card)
one-showing tables text n s m t (inr x) (inr y) =
    let same : x.place ≡ y.place = one-longest (IsCard tables) text x.place y.place x.longest y.longest in
    (x.refused ∙ sym y.refused, x.all ∙ ap (number_line 40) same ∙ sym y.all)

-- a text longer than every card is shown as its beginning is, if that is longer too: no more of it need be kept
pub long-showing : (tables size : ℕ) (text : List ℕ) (n : ℕ) (s : List ℕ) → 28 * tables + 13 < size → size ≤ length text
    → CardShown tables (take size text) n s → CardShown tables text n s
unfolding CardShown
long-showing tables size text n s more long (inl x) =
    absurd (omega (arith, longest-card tables (take size text) x.is-card, length-take-le size text long))
long-showing tables size text n s more long (inr x) =
    inr
    (record {
      refused = x.refused;
      no-card = λ p. (omega (arith, longest-card tables text p));
      place = x.place;
      longest = longest-whole (IsCard tables) size text (λ t p. (omega (arith, longest-card tables t p))) long x.place x.longest;
      all = x.all;
    })
