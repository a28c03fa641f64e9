-- Of any form: the text of numbers has it and reads back to them, and a text that has it is the text of the numbers read.
-- Proved once over the form; each value cites it. Assumes nothing.
use mathlib.Core.Path.{◌≡◌, refl, sym, ap, ap₂, ◌∙◌}
use mathlib.Core.Bool.{true, false, not, ◌&&◌, ◌||◌, or-false}
use mathlib.Core.List.{List, [], ◌∷◌, ◌++◌, append_assoc}
use Prim.Native.Nat.{ℕ, zero, suc, ◌+◌, ◌^◌, ◌<◌}
use native.Mathlib.Omega.{arith}
use borrow.Author.Tests.{ltb-true, lt-ltb, eqb-true, eq-eqb, not-true}
use lib.Dec.{eqb, ltb}
use lib.ListN.{length, take, drop, replicate, length-append, length-replicate, take-append-drop}
use lib.Seq.{drop-append_seam, take_at, length-take-le}
use Rattle.line.specs.Runs.{every}
use Rattle.line.proofs.Runs.{and_left, and_right, and_both}
use Rattle.text.specs.Classes.{is_digit, matching}
use Rattle.text.specs.Decimal.{decimal, value_of, number_at}
use Rattle.text.specs.Layout.{Piece, digits, fixed, layout_text, numbers_from, pattern, agrees, fits, numbers_fit, plain}
use Rattle.text.proofs.Matching.{matching-append, matched-length}
use Rattle.text.proofs.Decimal.{length-decimal, value-decimal, decimal-value, decimal-digits, value-lt}

marks-digits : (s : List ℕ) (w : ℕ) → length s ≡ w → every is_digit s ≡ true → fits (replicate w 35) s ≡ true
unfolding fits matching agrees every
marks-digits [] zero n h = refl
marks-digits [] (suc w) n h = absurd (omega arith)
marks-digits (c ∷ s) zero n h = absurd (omega arith)
marks-digits (c ∷ s) (suc w) n h = rw (and_left (is_digit c) (every is_digit s) h) (marks-digits s w (omega arith) (and_right (is_digit c) (every is_digit s) h))

-- a run of marks fits just digits
digits-marks : (s : List ℕ) (w : ℕ) → fits (replicate w 35) s ≡ true → every is_digit s ≡ true
unfolding fits matching agrees every
digits-marks [] w e = refl
digits-marks (c ∷ s) zero e = absurd (let z : ◌≡◌ {A = ℕ} 0 1 = cc in omega arith)
digits-marks (c ∷ s) (suc w) e =
    and_both (is_digit c) (every is_digit s)
    (sym (or-false (is_digit c)) ∙ and_left (is_digit c || false) (matching agrees (replicate w 35) s) e)
    (digits-marks s w (and_right (is_digit c || false) (matching agrees (replicate w 35) s) e))

-- a plain text fits just itself
itself : (t : List ℕ) → every (λ c. not (eqb c 35)) t ≡ true → fits t t ≡ true
unfolding fits matching agrees every
itself [] h = refl
itself (c ∷ t) h =
    let m = not-true (eqb c 35) (and_left (not (eqb c 35)) (every (λ c. not (eqb c 35)) t) h) in
    rw (m, eq-eqb c c refl) (itself t (and_right (not (eqb c 35)) (every (λ c. not (eqb c 35)) t) h))

only-itself : (t s : List ℕ) → every (λ c. not (eqb c 35)) t ≡ true → fits t s ≡ true → s ≡ t
unfolding fits matching agrees every
only-itself [] [] h e = refl
only-itself [] (c ∷ s) h e = absurd (let z : ◌≡◌ {A = ℕ} 0 1 = cc in omega arith)
only-itself (x ∷ t) [] h e = absurd (let z : ◌≡◌ {A = ℕ} 0 1 = cc in omega arith)
only-itself (x ∷ t) (c ∷ s) h e =
    let m = not-true (eqb x 35) (and_left (not (eqb x 35)) (every (λ c. not (eqb c 35)) t) h) in
    let f : (eqb x c && matching agrees t s) ≡ true = rw m at e in
    ap₂ ◌∷◌ (sym (eqb-true x c (and_left (eqb x c) (matching agrees t s) f))) (only-itself t s (and_right (not (eqb x 35)) (every (λ c. not (eqb c 35)) t) h) (and_right (eqb x c) (matching agrees t s) f))

-- the text of numbers within their digits has the form
pub text-fits : (ps : List Piece) (ns : List ℕ) → plain ps ≡ true → numbers_fit ps ns ≡ true → fits (pattern ps) (layout_text ps ns) ≡ true
unfolding fits pattern layout_text numbers_fit plain
text-fits [] ns q h = unfold matching in refl
text-fits (fixed t ∷ ps) ns q h =
    let ht = and_left (every (λ c. not (eqb c 35)) t) (plain ps) q in
    let hp = and_right (every (λ c. not (eqb c 35)) t) (plain ps) q in
    matching-append agrees t t (pattern ps) (layout_text ps ns) refl ∙ and_both _ _ (itself t ht) (text-fits ps ns hp h)
text-fits (digits w ∷ ps) [] q h = absurd (let z : ◌≡◌ {A = ℕ} 0 1 = cc in omega arith)
text-fits (digits w ∷ ps) (n ∷ ns) q h =
    matching-append agrees (replicate w 35) (decimal w n) (pattern ps) (layout_text ps ns) (length-replicate w 35 ∙ sym (length-decimal w n))
    ∙ and_both _ _ (marks-digits (decimal w n) w (length-decimal w n) (decimal-digits w n)) (text-fits ps ns q (and_right (ltb n (10 ^ w)) (numbers_fit ps ns) h))

-- a number that was written after something, read back
number-after : (w n : ℕ) (rest pre : List ℕ) → n < 10 ^ w → number_at (pre ++ (decimal w n ++ rest)) (length pre) w ≡ n
unfolding number_at
number-after w n rest pre h =
    rw (drop-append_seam pre (decimal w n ++ rest), take_at (decimal w n) rest w (length-decimal w n)) (value-decimal w n h)

next : (w n : ℕ) (rest pre : List ℕ) (ps : List Piece) (ns : List ℕ)
    → numbers_from (length (pre ++ decimal w n)) ps ((pre ++ decimal w n) ++ rest) ≡ ns → numbers_from (length pre + w) ps (pre ++ (decimal w n ++ rest)) ≡ ns
next w n rest pre ps ns e = (rw (length-append pre (decimal w n), length-decimal w n, append_assoc pre (decimal w n) rest) at e)

-- and reads back to them, wherever it stands
reads-after : (ps : List Piece) (ns pre : List ℕ) → numbers_fit ps ns ≡ true → numbers_from (length pre) ps (pre ++ layout_text ps ns) ≡ ns
unfolding layout_text numbers_from numbers_fit
reads-after [] [] pre h = refl
reads-after [] (n ∷ ns) pre h = absurd (let z : ◌≡◌ {A = ℕ} 0 1 = cc in omega arith)
reads-after (fixed t ∷ ps) ns pre h =
    rw (← length-append pre t, ← append_assoc pre t (layout_text ps ns)) (reads-after ps ns (pre ++ t) h)
reads-after (digits w ∷ ps) [] pre h = absurd (let z : ◌≡◌ {A = ℕ} 0 1 = cc in omega arith)
reads-after (digits w ∷ ps) (n ∷ ns) pre h =
    ap₂ ◌∷◌ (number-after w n (layout_text ps ns) pre (ltb-true n (10 ^ w) (and_left (ltb n (10 ^ w)) (numbers_fit ps ns) h)))
    (next w n (layout_text ps ns) pre ps ns (reads-after ps ns (pre ++ decimal w n) (and_right (ltb n (10 ^ w)) (numbers_fit ps ns) h)))

pub text-reads : (ps : List Piece) (ns : List ℕ) → numbers_fit ps ns ≡ true → numbers_from 0 ps (layout_text ps ns) ≡ ns
text-reads ps ns h = reads-after ps ns [] h

-- a text that fits two patterns one after the other, cut where they meet
pub record Cut (t u s : List ℕ) : Type 0 where
  pub first : List ℕ
  pub second : List ℕ
  pub whole : s ≡ first ++ second
  pub long : length t ≡ length first
  pub fits-first : fits t first ≡ true
  pub fits-second : fits u second ≡ true

cut : (t u s : List ℕ) → fits (t ++ u) s ≡ true → Cut t u s
unfolding fits
cut t u s e =
    let n : length (t ++ u) ≡ length s = matched-length agrees (t ++ u) s e in
    let l : length t ≡ length (take (length t) s) = sym (length-take-le (length t) s (omega (arith, length-append t u))) in
    let w : s ≡ take (length t) s ++ drop (length t) s = sym (take-append-drop (length t) s) in
    let f : (matching agrees t (take (length t) s) && matching agrees u (drop (length t) s)) ≡ true =
    sym (matching-append agrees t (take (length t) s) u (drop (length t) s) l) ∙ ap (matching agrees (t ++ u)) (sym w) ∙ e in
    record {
      first = take (length t) s;
      second = drop (length t) s;
      whole = w;
      long = l;
      fits-first = and_left (matching agrees t (take (length t) s)) (matching agrees u (drop (length t) s)) f;
      fits-second = and_right (matching agrees t (take (length t) s)) (matching agrees u (drop (length t) s)) f;
    }

after-fixed : (t : List ℕ) (ps : List Piece) (s pre a b : List ℕ) → s ≡ a ++ b → a ≡ t
    → layout_text ps (numbers_from (length (pre ++ a)) ps ((pre ++ a) ++ b)) ≡ b
    → t ++ layout_text ps (numbers_from (length pre + length t) ps (pre ++ s)) ≡ s
after-fixed t ps s pre a b e own rest =
    rw (e, ← own) (ap (λ (l : List ℕ). a ++ l) (rw (length-append pre a, append_assoc pre a b) at rest))

after-digits : (w : ℕ) (ps : List Piece) (s pre a b : List ℕ) → s ≡ a ++ b → length a ≡ w → decimal w (value_of a) ≡ a
    → layout_text ps (numbers_from (length (pre ++ a)) ps ((pre ++ a) ++ b)) ≡ b
    → decimal w (number_at (pre ++ s) (length pre) w) ++ layout_text ps (numbers_from (length pre + w) ps (pre ++ s)) ≡ s
unfolding number_at
after-digits w ps s pre a b e n own rest =
    rw (e, drop-append_seam pre (a ++ b), take_at a b w n, own)
    (ap (λ (l : List ℕ). a ++ l) (rw (length-append pre a, append_assoc pre a b, n) at rest))

text-after : (ps : List Piece) (s pre : List ℕ) → plain ps ≡ true → fits (pattern ps) s ≡ true → layout_text ps (numbers_from (length pre) ps (pre ++ s)) ≡ s
unfolding layout_text numbers_from pattern plain
text-after [] [] pre q h = refl
text-after [] (c ∷ s) pre q h = absurd (unfold fits matching in (let z : ◌≡◌ {A = ℕ} 0 1 = cc in omega arith))
text-after (fixed t ∷ ps) s pre q h =
    let k = cut t (pattern ps) s h in
    let own = only-itself t k.first (and_left (every (λ c. not (eqb c 35)) t) (plain ps) q) k.fits-first in
    let rest = text-after ps k.second (pre ++ k.first) (and_right (every (λ c. not (eqb c 35)) t) (plain ps) q) k.fits-second in
    after-fixed t ps s pre k.first k.second k.whole own rest
text-after (digits w ∷ ps) s pre q h =
    let k = cut (replicate w 35) (pattern ps) s h in
    let n : length k.first ≡ w = sym k.long ∙ length-replicate w 35 in
    let own : decimal w (value_of k.first) ≡ k.first = ap (λ (j : ℕ). decimal j (value_of k.first)) (sym n) ∙ decimal-value k.first (digits-marks k.first w k.fits-first) in
    let rest = text-after ps k.second (pre ++ k.first) q k.fits-second in
    after-digits w ps s pre k.first k.second k.whole n own rest

-- a text of the form is the text of the numbers that stand in it
pub form-is-text : (ps : List Piece) (s : List ℕ) → plain ps ≡ true → fits (pattern ps) s ≡ true → layout_text ps (numbers_from 0 ps s) ≡ s
form-is-text ps s q h = text-after ps s [] q h

first_fits : (w : ℕ) (s pre a b : List ℕ) → s ≡ a ++ b → length a ≡ w → every is_digit a ≡ true → ltb (number_at (pre ++ s) (length pre) w) (10 ^ w) ≡ true
unfolding number_at
first_fits w s pre a b e n h = rw (e, drop-append_seam pre (a ++ b), take_at a b w n) (lt-ltb _ _ (rw n at (value-lt a h)))

rest-fits : (w : ℕ) (ps : List Piece) (s pre a b : List ℕ) → s ≡ a ++ b → length a ≡ w
    → numbers_fit ps (numbers_from (length (pre ++ a)) ps ((pre ++ a) ++ b)) ≡ true → numbers_fit ps (numbers_from (length pre + w) ps (pre ++ s)) ≡ true
rest-fits w ps s pre a b e n h = rw e (rw (length-append pre a, append_assoc pre a b, n) at h)

fit-after : (ps : List Piece) (s pre : List ℕ) → fits (pattern ps) s ≡ true → numbers_fit ps (numbers_from (length pre) ps (pre ++ s)) ≡ true
unfolding numbers_fit numbers_from pattern
fit-after [] s pre h = refl
fit-after (fixed t ∷ ps) s pre h =
    let k = cut t (pattern ps) s h in
    rest-fits (length t) ps s pre k.first k.second k.whole (sym k.long) (fit-after ps k.second (pre ++ k.first) k.fits-second)
fit-after (digits w ∷ ps) s pre h =
    let k = cut (replicate w 35) (pattern ps) s h in
    let n : length k.first ≡ w = sym k.long ∙ length-replicate w 35 in
    and_both _ _ (first_fits w s pre k.first k.second k.whole n (digits-marks k.first w k.fits-first))
    (rest-fits w ps s pre k.first k.second k.whole n (fit-after ps k.second (pre ++ k.first) k.fits-second))

-- the numbers that stand in a text of the form are within their digits
pub form-numbers-fit : (ps : List Piece) (s : List ℕ) → fits (pattern ps) s ≡ true → numbers_fit ps (numbers_from 0 ps s) ≡ true
form-numbers-fit ps s h = fit-after ps s [] h

-- the same as facts, one behind the other
abbrev pub Within : List Piece → List ℕ → Type 0
Within [] ns = Unit {0}
Within (fixed t ∷ ps) ns = Within ps ns
Within (digits w ∷ ps) [] = ⊥
Within (digits w ∷ ps) (n ∷ ns) = (n < 10 ^ w) × Within ps ns

within : (ps : List Piece) (ns : List ℕ) → numbers_fit ps ns ≡ true → Within ps ns
unfolding numbers_fit
within [] ns h = tt
within (fixed t ∷ ps) ns h = within ps ns h
within (digits w ∷ ps) [] h = let z : ◌≡◌ {A = ℕ} 0 1 = cc in omega arith
within (digits w ∷ ps) (n ∷ ns) h =
    (ltb-true n (10 ^ w) (and_left (ltb n (10 ^ w)) (numbers_fit ps ns) h), within ps ns (and_right (ltb n (10 ^ w)) (numbers_fit ps ns) h))

pub form-within : (ps : List Piece) (s : List ℕ) → fits (pattern ps) s ≡ true → Within ps (numbers_from 0 ps s)
form-within ps s h = within ps (numbers_from 0 ps s) (form-numbers-fit ps s h)
