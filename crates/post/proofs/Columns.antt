-- Columns and lines: a line's columns are good, columns that are shared are good as well, and good columns can be completed to a line.
-- Assumes nothing.
use Rattle.std.proofs.Common.{◌≡◌, ℕ, ◌+◌, ◌-◌, ◌*◌, ◌/◌, ◌%◌, ◌<◌, ◌≤◌, Bool, true, false, leb, List, length, get_or, take, replicate, sym, refl, ap, ◌∙◌, ⊎_elim, arith, le-leb, leb-true}
use Rattle.line.proofs.Runs.{every-at}
use Rattle.line.specs.Runs.{every}
use Rattle.text.specs.Classes.{between}
use Rattle.text.proofs.Beginnings.{le-or-lt, same_at}
use Rattle.values.specs.Registers.{good_row}
use Rattle.post.specs.Grammar.{line_text}
use Rattle.post.specs.Columns.{lowest, highest, column_fits, tens_of, number_of, row_of, Column}
use Rattle.post.proofs.Mixing.{mixed, length-mixed, same-mixed, mixed-front, mixed-back, mixed-fits}
use Rattle.post.proofs.Lines.{line-columns, length-line, number-line, line-fits, fits_line, fits-row, between_is, between-low, between-high}

pub same-fits : (s t : List ℕ) (j : ℕ) → get_or s j 0 ≡ get_or t j 0 → column_fits s j ≡ column_fits t j
unfolding column_fits
same-fits s t j e = ap (λ (c : ℕ). between (get_or lowest j 0) (get_or highest j 0) c) e

pub same-number-of : (s t : List ℕ) → get_or s 6 0 ≡ get_or t 6 0 → get_or s 7 0 ≡ get_or t 7 0 → number_of s ≡ number_of t
unfolding number_of
same-number-of s t a b = rw (a, b)

same-tens : (s t : List ℕ) → get_or s 6 0 ≡ get_or t 6 0 → tens_of s ≡ tens_of t
unfolding tens_of
same-tens s t a = rw a

-- a good column that is shared
pub shared-column : (tables above k : ℕ) (s t : List ℕ) → take k s ≡ take k t → (j : ℕ) → j < k → Column tables above s j → Column tables above t j
shared-column tables above k s t e j h c =
    let same = same_at k s t e in
    record {
      held = sym (same-fits s t j (same j h)) ∙ c.held;
      first = c.first;
      tens = λ i. let d : tens_of s ≡ tens_of t = same-tens s t (same 6 (omega arith)) in (omega (arith, c.tens i), omega (arith, c.tens i));
      unit = λ i.
          let d : number_of s ≡ number_of t = same-number-of s t (same 6 (omega arith)) (same 7 (omega arith)) in
          (omega (arith, c.unit i), omega (arith, c.unit i));
    }

line-tens : (n : ℕ) (row : List ℕ) → n < 100 → tens_of (line_text n row) ≡ n / 10
unfolding tens_of
line-tens n row h = rw (line-columns n row) (omega arith)

-- every column of a line that may come next
pub line-column : (tables above n : ℕ) (row : List ℕ) → tables < 100 → above < n → n ≤ tables → good_row row ≡ true → (j : ℕ) → j < 36 → Column tables above (line_text n row) j
line-column tables above n row few low high good j h =
    record {
      held = line-fits n row good j h;
      first = λ i. omega arith;
      tens = λ i. let d = line-tens n row (omega arith) in (omega arith, omega arith);
      unit = λ i. let d = number-line n row (omega arith) in (omega arith, omega arith);
    }

-- a line that may come next and has the first k columns of s
pub record Completed (tables above : ℕ) (s : List ℕ) (k : ℕ) : Type 0 where
  pub number : ℕ
  pub row : List ℕ
  pub low : above < number
  pub high : number ≤ tables
  pub good-row : good_row row ≡ true
  pub same : take k (line_text number row) ≡ take k s

abbrev ones : List ℕ
ones = replicate 24 49

ones-good : good_row ones ≡ true
unfolding good_row every between
ones-good = refl

module _ (tables above k n : ℕ) (s : List ℕ) (few : tables < 100) (in-line : k ≤ 36) (in-text : k ≤ length s)
    (low : above < n) (high : n ≤ tables) (before : (j : ℕ) → j < k → Column tables above s j) (tens : k ≡ 7 → 48 + n / 10 % 10 ≡ get_or s 6 0) where
  -- the first k columns of s, and then those of a line for table n
  abbrev whole : List ℕ
  whole = mixed k s (line_text n ones)

  length_whole : length whole ≡ 36
  length_whole = length-mixed k s (line_text n ones) in-text 36 in-line (length-line n ones ones-good)

  whole-fits : (j : ℕ) → j < 36 → column_fits whole j ≡ true
  unfolding column_fits
  whole-fits =
      mixed-fits k s (line_text n ones) in-text (λ (j c : ℕ). between (get_or lowest j 0) (get_or highest j 0) c) 36 (λ j h. (before j h).held) (line-fits n ones ones-good)

  back : (j : ℕ) → k ≤ j → get_or whole j 0 ≡ get_or (line_text n ones) j 0
  back = mixed-back k s (line_text n ones) in-text

  front : (j : ℕ) → j < k → get_or whole j 0 ≡ get_or s j 0
  front = mixed-front k s (line_text n ones) in-text

  line-six : get_or (line_text n ones) 6 0 ≡ 48 + n / 10 % 10
  line-six = rw (line-columns n ones)

  mixed-six : k ≤ 7 → get_or whole 6 0 ≡ get_or (line_text n ones) 6 0
  mixed-six h =
      ⊎_elim (λ b. back 6 b) (λ f. front 6 f ∙ sym (tens (omega arith)) ∙ sym line-six) (le-or-lt k 6)

  -- its number may come next
  mixed-number : (above < number_of whole) × (number_of whole ≤ tables)
  mixed-number =
      ⊎_elim
      (λ b.
      let e : number_of whole ≡ n = same-number-of whole (line_text n ones) (mixed-six b) (back 7 b) ∙ number-line n ones (omega arith) in
      (omega arith, omega arith))
      (λ f.
      let e : number_of whole ≡ number_of s = same-number-of whole s (front 6 (omega arith)) (front 7 f) in
      (omega (arith, (before 7 f).unit refl), omega (arith, (before 7 f).unit refl))) (le-or-lt k 7)

  completed-by : Completed tables above s k
  completed-by =
      record {
        number = number_of whole;
        row = row_of whole;
        low = mixed-number.0;
        high = mixed-number.1;
        good-row = fits-row whole length_whole whole-fits;
        same = ap (take k) (sym (fits_line whole length_whole whole-fits)) ∙ same-mixed k s (line_text n ones) in-text;
      }

tens-digit-small : (s : List ℕ) → column_fits s 6 ≡ true → (48 ≤ get_or s 6 0) × (get_or s 6 0 ≤ 57)
unfolding column_fits lowest highest
tens-digit-small s e = (between-low 48 57 (get_or s 6 0) e, between-high 48 57 (get_or s 6 0) e)

-- good columns can be completed: with the next number, or, behind a tens digit, with the first that starts with it
pub complete : (tables above k : ℕ) (s : List ℕ) → tables < 100 → k ≤ 36 → k ≤ length s → above < tables → ((j : ℕ) → j < k → Column tables above s j) → Completed tables above s k
unfolding tens_of
complete tables above k s few in-line in-text room before =
    ⊎_elim
    (λ h. completed-by tables above k (above + 1) s few in-line in-text (omega arith) (omega arith) before (λ e. absurd (omega arith)))
    (λ h.
    let six = before 6 (omega arith) in
    let t = tens-digit-small s six.held in
    let d = six.tens refl in
    ⊎_elim
    (λ b. completed-by tables above k (above + 1) s few in-line in-text (omega arith) (omega arith) before (λ e. omega (arith, t.0, t.1, d.0, d.1)))
    (λ b. completed-by tables above k (tens_of s * 10) s few in-line in-text b d.1 before (λ e. omega (arith, t.0, t.1, d.0, d.1)))
    (le-or-lt (tens_of s * 10) above)) (le-or-lt k 6)

-- two tests of which each passes when the other does
same_test : (a b : Bool) → (a ≡ true → b ≡ true) → (b ≡ true → a ≡ true) → a ≡ b
same_test true b f g = sym (f refl)
same_test false true f g = g refl
same_test false false f g = refl

-- the bounds of a column are in order, and are characters
pub bounds-order : (j : ℕ) → j < 36 → get_or lowest j 0 ≤ get_or highest j 0
unfolding column_fits
bounds-order j h =
    let e = line-fits 1 ones ones-good j h in
    omega (arith, between-low (get_or lowest j 0) (get_or highest j 0) (get_or (line_text 1 ones) j 0) e, between-high (get_or lowest j 0) (get_or highest j 0) (get_or (line_text 1 ones) j 0) e)

highest-small : every (between 0 127) highest ≡ true
unfolding every between highest
highest-small = refl

length-highest : length highest ≡ 36
unfolding highest
length-highest = refl

pub bounds-small : (j : ℕ) → j < 36 → get_or highest j 0 < 256
bounds-small j h =
    omega (arith, between-high 0 127 (get_or highest j 0) (every-at (between 0 127) highest highest-small j (omega (arith, length-highest))))

-- one comparison for both bounds, of a difference that wraps
pub fits-wrapped : (lo hi c r : ℕ) → lo ≤ hi → hi < 256 → c < 256 → r < 256 → (r + lo) % 256 ≡ c → leb r (hi - lo) ≡ between lo hi c
fits-wrapped lo hi c r o h k m e =
    same_test (leb r (hi - lo)) (between lo hi c)
    (λ t. let s = leb-true r (hi - lo) t in between_is lo hi c (omega arith) (omega arith))
    (λ t. let a = between-low lo hi c t in let b = between-high lo hi c t in le-leb r (hi - lo) (omega arith))
