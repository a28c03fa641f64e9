-- What the exporter shows, from what the export answers; a text has one showing; and a text longer than every post is shown as its
-- beginning is. Assumes nothing.
use mathlib.Core.Path.{◌≡◌, refl, sym, ap, ap₂, ◌∙◌}
use mathlib.Core.Bool.{Bool, true, false}
use mathlib.Core.Logic.{◌⊎◌, inl, inr, ⊎_elim}
use mathlib.Core.List.{List}
use Prim.Native.Nat.{ℕ, ◌+◌, ◌*◌, ◌<◌, ◌≤◌}
use native.Mathlib.Nat.{zero-add}
use native.Mathlib.Omega.{arith}
use lib.ListN.{length, take}
use lib.Seq.{length-take-le}
use Rattle.text.proofs.Beginnings.{one-longest, longest-whole}
use Rattle.text.specs.Writing.{stored}
use Rattle.text.proofs.Writing.{stored-holding}
use Rattle.numerals.specs.Numerals.{number_line}
use Rattle.numerals.proofs.Widths.{line-few}
use Rattle.numerals.proofs.Begun.{begun}
use Rattle.values.specs.Edition.{is_edition, tables_of}
use Rattle.values.proofs.Editions.{tables-most}
use Rattle.post.specs.Grammar.{IsPost, post_text}
use Rattle.post.proofs.Reading.{good-rising, one-reading}
use Rattle.post.proofs.Answers.{longest-text}
use Rattle.export.specs.Frames.{frames_of, Done, NoPost, ExportedAs, ExportedFor}
use Rattle.export.proofs.Lines.{length-lines, lines_are}
use Rattle.export.proofs.Answers.{room-enough}
use Rattle.exporting.specs.Shown.{ExportShown, ShowsExport, ShownFor}

-- 36 bytes a line
length-frames : (tables : ℕ) (text : List ℕ) (p : IsPost tables text) → length (frames_of p.entries) ≡ 36 * length p.entries
length-frames tables text p =
    let es = p.entries in
    sym (ap length (lines_are tables 0 es (good-rising tables es p.good))) ∙ length-lines (post_text es) (length es)

module _ (tables : ℕ) (text out : List ℕ) (number size place : ℕ) (after : List ℕ) (e : ExportedAs tables text out number size place after) where
  done-shows : Done tables text out number size place after → ShowsExport tables text out 1 size after
  unfolding ExportShown
  done-shows d =
      record {
        shown = frames_of d.is-post.entries;
        is = inl (record { done = refl; is-post = d.is-post; all = refl });
        long = d.long ∙ sym (length-frames tables text d.is-post);
        held = d.written;
      }

  pub shows-frames : number ≡ 1 → ShowsExport tables text out 1 size after
  unfolding ExportedAs
  shows-frames h =
      ⊎_elim done-shows (λ r. ⊎_elim (λ n. absurd (omega (arith, n.refused))) (λ n. absurd (omega (arith, n.refused))) r) e

  refusal-shows : 42 ≤ length out → (count : ℕ) → count ≡ 0 + length (number_line 20 place) → (last : List ℕ) → last ≡ stored after 0 (number_line 20 place)
      → NoPost tables text out number size place after → ShowsExport tables text out 20 count last
  unfolding ExportShown
  refusal-shows room count k last w n =
      record {
        shown = number_line 20 place;
        is = inr (record { refused = refl; no-post = n.no-post; place = place; longest = n.longest; all = refl });
        long = k ∙ zero-add (length (number_line 20 place));
        held = w ∙ ap (λ (b : List ℕ). stored b 0 (number_line 20 place)) n.kept ∙ stored-holding out (number_line 20 place) (omega (arith, line-few 20 place));
      }

  pub shows-place : (number ≡ 1 → ⊥) → 36 * tables ≤ length out → 42 ≤ length out → (count : ℕ) → count ≡ 0 + length (number_line 20 place)
      → (last : List ℕ) → last ≡ stored after 0 (number_line 20 place) → ShowsExport tables text out 20 count last
  unfolding ExportedAs
  shows-place h all room count k last w =
      let answers = room-enough tables text out number size place after all e in
      ⊎_elim (λ d. absurd (h d.done))
      (λ r.
      ⊎_elim (λ n. absurd (⊎_elim (λ one. omega (arith, n.refused)) (λ twenty. omega (arith, n.refused)) answers))
      (refusal-shows room count k last w) r) e

-- the same for an edition, of what the export answers
module _ (edition : ℕ) (text out : List ℕ) (room : 900 ≤ length out) where
  pub shows-done : (size : ℕ) (after : List ℕ) → ExportedFor edition text out 1 size 0 after → ShownFor edition text out 1 size after
  shows-done size after x =
      record { none = λ e. absurd (omega (arith, (x.none e).0)); some = λ e. shows-frames (tables_of edition) text out 1 size 0 after (x.some e) refl }

  pub shows-refused : (number place : ℕ) (after : List ℕ) → (number ≡ 1 → ⊥) → ExportedFor edition text out number 0 place after → (count : ℕ)
      → count ≡ 0 + length (number_line number place) → (last : List ℕ) → last ≡ stored after 0 (number_line number place) → ShownFor edition text out number count last
  shows-refused number place after h x count k last w =
      record {
        none =
            λ e.
            let n = x.none e in
            let line : number_line number place ≡ number_line 16 0 = ap₂ number_line n.0 n.2 in (
              n.0,
              k ∙ zero-add (length (number_line number place)) ∙ ap length line,
              w ∙ ap₂ (λ (b l : List ℕ). stored b 0 l) n.3 line ∙ stored-holding out (number_line 16 0) (omega (arith, line-few 16 0)),
            );
        some =
            λ e.
            let all : 36 * tables_of edition ≤ length out = omega (arith, tables-most edition) in
            let n : number ≡ 20 = ⊎_elim (λ d. absurd (h d)) (λ d. d) (room-enough (tables_of edition) text out number 0 place after all (x.some e)) in
            let s : ShowsExport (tables_of edition) text out 20 count last =
            shows-place (tables_of edition) text out number 0 place after (x.some e) h all (omega arith) count
            (k ∙ ap (λ (m : ℕ). 0 + length (number_line m place)) n) last (w ∙ ap (λ (m : ℕ). stored after 0 (number_line m place)) n) in
            rw n s;
      }

-- what is shown stands at the front of the buffer
pub shown-within : (edition : ℕ) (text out : List ℕ) (number size : ℕ) (after : List ℕ) → ShownFor edition text out number size after
    → (size ≤ length after) × (size ≡ length (take size after))
shown-within edition text out number size after s = ⊎_elim
    (λ e. let x = s.some e in begun out x.shown size x.long after x.held)
    (λ e. let x = s.none e in begun out (number_line 16 0) size x.1 after x.2) (one-way (is_edition edition))
  where
    one-way : (b : Bool) → (b ≡ true) ⊎ (b ≡ false)
    one-way true = inl refl
    one-way false = inr refl

-- a text has one showing
pub one-showing : (tables : ℕ) (text : List ℕ) (n : ℕ) (s : List ℕ) (m : ℕ) (t : List ℕ) → tables < 100
    → ExportShown tables text n s → ExportShown tables text m t → (n ≡ m) × (s ≡ t)
unfolding ExportShown
one-showing tables text n s m t few (inl x) (inl y) =
    let p = x.is-post in
    let q = y.is-post in
    let same : p.entries ≡ q.entries = one-reading tables p.entries q.entries few p.good q.good (p.spelt ∙ sym q.spelt) in
    (x.done ∙ sym y.done, x.all ∙ ap frames_of same ∙ sym y.all)
one-showing tables text n s m t few (inl x) (inr y) = absurd (y.no-post x.is-post)
one-showing tables text n s m t few (inr x) (inl y) = absurd (x.no-post y.is-post)
one-showing tables text n s m t few (inr x) (inr y) =
    let same : x.place ≡ y.place = one-longest (IsPost tables) text x.place y.place x.longest y.longest in
    (x.refused ∙ sym y.refused, x.all ∙ ap (number_line 20) same ∙ sym y.all)

-- a text longer than every post is shown as its beginning is, if that is longer too: no more of it need be kept
pub long-showing : (tables size : ℕ) (text : List ℕ) (n : ℕ) (s : List ℕ) → 36 * tables + 3 < size → size ≤ length text
    → ExportShown tables (take size text) n s → ExportShown tables text n s
unfolding ExportShown
long-showing tables size text n s more long (inl x) =
    absurd (omega (arith, longest-text tables (take size text) x.is-post, length-take-le size text long))
long-showing tables size text n s more long (inr x) =
    inr
    (record {
      refused = x.refused;
      no-post = λ p. (omega (arith, longest-text tables text p));
      place = x.place;
      longest = longest-whole (IsPost tables) size text (λ t p. (omega (arith, longest-text tables t p))) long x.place x.longest;
      all = x.all;
    })
