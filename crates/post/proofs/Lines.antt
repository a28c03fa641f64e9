-- A line, column by column: what it holds, that just that is a line, and that number and row are read back.
-- Assumes nothing.
use Rattle.std.proofs.Common.{◌≡◌, ℕ, zero, suc, ◌+◌, ◌/◌, ◌%◌, ◌<◌, ◌≤◌, Bool, true, eqb, leb, List, [], ◌∷◌, ◌++◌, length, get_or, take, drop, replicate, sym, refl, ap, ◌∙◌, ap₂, le_of_suc-le-suc, arith, length-append, length-drop, take-append-drop, drop_of_length-le, length-take-le, get_or-drop, drop-cons, get_or-take, drop-drop, take_at, eq-eqb, eqb-true, le-leb, leb-true}
use lib.ListN.{length-replicate, get_or-replicate, get_or-append}
use Rattle.line.specs.Runs.{every}
use Rattle.line.proofs.Runs.{and_left, and_right, and_both}
use Rattle.text.specs.Classes.{between}
use Rattle.text.specs.Decimal.{decimal}
use Rattle.text.specs.Layout.{layout_text}
use Rattle.values.specs.Registers.{good_row}
use Rattle.values.specs.Texts.{table_text}
use Rattle.post.specs.Grammar.{line_text}
use Rattle.post.specs.Columns.{lowest, highest, column_fits, number_of, row_of}

-- CR LF behind the bracket
abbrev ending : List ℕ
ending = 41 ∷ 13 ∷ 10 ∷ []

pub line-columns : (n : ℕ) (row : List ℕ)
    → line_text n row ≡ 49 ∷ 51 ∷ 49 ∷ 46 ∷ 48 ∷ 46 ∷ (48 + n / 10 % 10) ∷ (48 + n % 10) ∷ 40 ∷ (row ++ ending)
unfolding line_text table_text layout_text decimal
line-columns n row = refl

pub row-length : (row : List ℕ) → good_row row ≡ true → length row ≡ 24
unfolding good_row
row-length row e = eqb-true (length row) 24 (and_left (eqb (length row) 24) (every (between 49 52) row) e)

pub row-zones : (row : List ℕ) → good_row row ≡ true → every (between 49 52) row ≡ true
unfolding good_row
row-zones row e = and_right (eqb (length row) 24) (every (between 49 52) row) e

pub length-line : (n : ℕ) (row : List ℕ) → good_row row ≡ true → length (line_text n row) ≡ 36
length-line n row e = rw (line-columns n row, length-append row ending, row-length row e)

-- number and row, read back
pub number-line : (n : ℕ) (row : List ℕ) → n < 100 → number_of (line_text n row) ≡ n
unfolding number_of
number-line n row h = rw (line-columns n row) (omega arith)

pub row_line : (n : ℕ) (row : List ℕ) → good_row row ≡ true → row_of (line_text n row) ≡ row
unfolding row_of
row_line n row e = rw (line-columns n row) (take_at row ending 24 (row-length row e))

pub between_is : (lo hi c : ℕ) → lo ≤ c → c ≤ hi → between lo hi c ≡ true
unfolding between
between_is lo hi c l h = rw (le-leb lo c l, le-leb c hi h)

pub between-low : (lo hi c : ℕ) → between lo hi c ≡ true → lo ≤ c
unfolding between
between-low lo hi c e = leb-true lo c (and_left (leb lo c) (leb c hi) e)

pub between-high : (lo hi c : ℕ) → between lo hi c ≡ true → c ≤ hi
unfolding between
between-high lo hi c e = leb-true c hi (and_right (leb lo c) (leb c hi) e)

-- every column of a text between those of two others
unfoldable Among : List ℕ → List ℕ → List ℕ → Type 0
Among ls hs s = (j : ℕ) → j < length s → between (get_or ls j 0) (get_or hs j 0) (get_or s j 0) ≡ true

among-cons : (l h c : ℕ) (ls hs s : List ℕ) → l ≤ c → c ≤ h → Among ls hs s → Among (l ∷ ls) (h ∷ hs) (c ∷ s)
unfolding Among
among-cons l h c ls hs s p q r zero k = between_is l h c p q
among-cons l h c ls hs s p q r (suc j) k = r j (le_of_suc-le-suc k)

among_none : Among [] [] []
unfolding Among
among_none j k = absurd (omega arith)

among-row : (row s : List ℕ) (ls hs : List ℕ) → every (between 49 52) row ≡ true → Among ls hs s
    → Among (replicate (length row) 49 ++ ls) (replicate (length row) 52 ++ hs) (row ++ s)
unfolding every
among-row [] s ls hs e r = r
among-row (c ∷ row) s ls hs e r =
    let z = and_left (between 49 52 c) (every (between 49 52) row) e in
    among-cons 49 52 c _ _ _ (between-low 49 52 c z) (between-high 49 52 c z)
    (among-row row s ls hs (and_right (between 49 52 c) (every (between 49 52) row) e) r)

-- one that is the same in all three
among-fixed : (c : ℕ) (ls hs s : List ℕ) → Among ls hs s → Among (c ∷ ls) (c ∷ hs) (c ∷ s)
among-fixed c ls hs s r = among-cons c c c ls hs s (omega arith) (omega arith) r

line-among : (n : ℕ) (row : List ℕ) → good_row row ≡ true → Among lowest highest (line_text n row)
unfolding lowest highest
line-among n row e =
    let z : Among ending ending ending = among-fixed 41 _ _ _ (among-fixed 13 _ _ _ (among-fixed 10 _ _ _ among_none)) in
    let b : Among (replicate 24 49 ++ ending) (replicate 24 52 ++ ending) (row ++ ending) =
    rw (row-length row e) at (among-row row ending ending ending (row-zones row e) z) in
    rw (line-columns n row)
    (among-fixed 49 _ _ _
    (among-fixed 51 _ _ _
    (among-fixed 49 _ _ _
    (among-fixed 46 _ _ _
    (among-fixed 48 _ _ _
    (among-fixed 46 _ _ _
    (among-cons 48 57 (48 + n / 10 % 10) _ _ _ (omega arith) (omega arith)
    (among-cons 48 57 (48 + n % 10) _ _ _ (omega arith) (omega arith) (among-fixed 40 _ _ _ b)))))))))

-- a line's columns hold what they may
pub line-fits : (n : ℕ) (row : List ℕ) → good_row row ≡ true → (j : ℕ) → j < 36 → column_fits (line_text n row) j ≡ true
unfolding column_fits Among
line-fits n row e j h = line-among n row e j (omega (arith, length-line n row e))

-- a test that every element of a run passes, each by itself
pub every_of : (p : ℕ → Bool) (s : List ℕ) → ((i : ℕ) → i < length s → p (get_or s i 0) ≡ true) → every p s ≡ true
unfolding every
every_of p [] h = refl
every_of p (c ∷ s) h = and_both (p c) (every p s) (h 0 (omega arith)) (every_of p s (λ i k. h (suc i) (omega arith)))

-- a row's columns hold zones
pub row-lowest : (i : ℕ) → i < 24 → get_or lowest (9 + i) 0 ≡ 49
unfolding lowest
row-lowest i h = sym (get_or-drop 9 lowest i 0) ∙ get_or-append (replicate 24 49) ending 0 i (simp length-replicate h) ∙ get_or-replicate 24 i 49 0 h

pub row-highest : (i : ℕ) → i < 24 → get_or highest (9 + i) 0 ≡ 52
unfolding highest
row-highest i h = sym (get_or-drop 9 highest i 0) ∙ get_or-append (replicate 24 52) ending 0 i (simp length-replicate h) ∙ get_or-replicate 24 i 52 0 h

-- the laws of the columns of a text that fits
module _ (u : List ℕ) (long : length u ≡ 36) (all : (j : ℕ) → j < 36 → column_fits u j ≡ true) where
  low : (j : ℕ) → j < 36 → get_or lowest j 0 ≤ get_or u j 0
  unfolding column_fits
  low j h = between-low (get_or lowest j 0) (get_or highest j 0) (get_or u j 0) (all j h)

  high : (j : ℕ) → j < 36 → get_or u j 0 ≤ get_or highest j 0
  unfolding column_fits
  high j h = between-high (get_or lowest j 0) (get_or highest j 0) (get_or u j 0) (all j h)

  -- the text, taken apart at its columns
  apart : u ≡ get_or u 0 0 ∷ get_or u 1 0 ∷ get_or u 2 0 ∷ get_or u 3 0 ∷ get_or u 4 0 ∷ get_or u 5 0 ∷ get_or u 6 0 ∷ get_or u 7 0 ∷ get_or u 8 0 ∷ drop 9 u
  apart =
      drop-cons u 0 0 (omega arith)
      ∙ ap (λ (l : List ℕ). get_or u 0 0 ∷ l) (drop-cons u 1 0 (omega arith)
      ∙ ap (λ (l : List ℕ). get_or u 1 0 ∷ l) (drop-cons u 2 0 (omega arith)
      ∙ ap (λ (l : List ℕ). get_or u 2 0 ∷ l) (drop-cons u 3 0 (omega arith)
      ∙ ap (λ (l : List ℕ). get_or u 3 0 ∷ l) (drop-cons u 4 0 (omega arith)
      ∙ ap (λ (l : List ℕ). get_or u 4 0 ∷ l) (drop-cons u 5 0 (omega arith)
      ∙ ap (λ (l : List ℕ). get_or u 5 0 ∷ l) (drop-cons u 6 0 (omega arith)
      ∙ ap (λ (l : List ℕ). get_or u 6 0 ∷ l) (drop-cons u 7 0 (omega arith)
      ∙ ap (λ (l : List ℕ). get_or u 7 0 ∷ l) (drop-cons u 8 0 (omega arith)))))))))

  behind : drop 9 u ≡ row_of u ++ (get_or u 33 0 ∷ get_or u 34 0 ∷ get_or u 35 0 ∷ [])
  unfolding row_of
  behind =
      sym (take-append-drop 24 (drop 9 u))
      ∙ ap (λ (l : List ℕ). take 24 (drop 9 u) ++ l)
      (drop-drop 24 9 u
      ∙ drop-cons u 33 0 (omega arith)
      ∙ ap (λ (l : List ℕ). get_or u 33 0 ∷ l) (drop-cons u 34 0 (omega arith)
      ∙ ap (λ (l : List ℕ). get_or u 34 0 ∷ l) (drop-cons u 35 0 (omega arith)
      ∙ ap (λ (l : List ℕ). get_or u 35 0 ∷ l) (drop_of_length-le u {i = 36} (omega arith)))))

  fixed-column : (j c : ℕ) → j < 36 → get_or lowest j 0 ≡ c → get_or highest j 0 ≡ c → get_or u j 0 ≡ c
  fixed-column j c h l k = omega (arith, low j h, high j h)

  tens-digit : get_or u 6 0 ≡ 48 + number_of u / 10 % 10
  unfolding number_of lowest highest
  tens-digit = omega (arith, low 6 (omega arith), high 6 (omega arith), low 7 (omega arith), high 7 (omega arith))

  unit-digit : get_or u 7 0 ≡ 48 + number_of u % 10
  unfolding number_of lowest highest
  unit-digit = omega (arith, low 6 (omega arith), high 6 (omega arith), low 7 (omega arith), high 7 (omega arith))

  -- a text that fits is a line
  pub fits_line : u ≡ line_text (number_of u) (row_of u)
  unfolding lowest highest
  fits_line =
      apart
      ∙ ap₂ ◌∷◌ (fixed-column 0 49 (omega arith) refl refl)
      (ap₂ ◌∷◌ (fixed-column 1 51 (omega arith) refl refl)
      (ap₂ ◌∷◌ (fixed-column 2 49 (omega arith) refl refl)
      (ap₂ ◌∷◌ (fixed-column 3 46 (omega arith) refl refl)
      (ap₂ ◌∷◌ (fixed-column 4 48 (omega arith) refl refl)
      (ap₂ ◌∷◌ (fixed-column 5 46 (omega arith) refl refl)
      (ap₂ ◌∷◌ tens-digit
      (ap₂ ◌∷◌ unit-digit
      (ap₂ ◌∷◌ (fixed-column 8 40 (omega arith) refl refl)
      (behind
      ∙ ap (λ (l : List ℕ). row_of u ++ l)
      (ap₂ ◌∷◌ (fixed-column 33 41 (omega arith) refl refl)
      (ap₂ ◌∷◌ (fixed-column 34 13 (omega arith) refl refl)
      (ap₂ ◌∷◌ (fixed-column 35 10 (omega arith) refl refl) refl))))))))))))
      ∙ sym (line-columns (number_of u) (row_of u))

  length-row : length (row_of u) ≡ 24
  unfolding row_of
  length-row = length-take-le 24 (drop 9 u) (rw (length-drop 9 u) (omega arith))

  zone : (i : ℕ) → i < 24 → between 49 52 (get_or (row_of u) i 0) ≡ true
  unfolding row_of
  zone i h =
      let e : get_or (take 24 (drop 9 u)) i 0 ≡ get_or u (9 + i) 0 = get_or-take 24 (drop 9 u) i 0 h ∙ get_or-drop 9 u i 0 in
      between_is 49 52 (get_or (take 24 (drop 9 u)) i 0) (omega (arith, low (9 + i) (omega arith), row-lowest i h)) (omega (arith, high (9 + i) (omega arith), row-highest i h))

  pub fits-row : good_row (row_of u) ≡ true
  unfolding good_row
  fits-row =
      and_both (eqb (length (row_of u)) 24) (every (between 49 52) (row_of u)) (eq-eqb (length (row_of u)) 24 length-row)
      (every_of (between 49 52) (row_of u) (λ i h. zone i (omega (arith, length-row))))
