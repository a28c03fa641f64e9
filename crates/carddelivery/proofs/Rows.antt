-- All rows of one meter, put into the tables of another: the tables are equal. Assumes nothing.
use mathlib.Core.Path.{◌≡◌, refl, sym, ap, ap₂, ◌∙◌}
use mathlib.Core.List.{List, [], ◌∷◌, ◌++◌}
use Prim.Native.Nat.{ℕ, zero, suc, ◌+◌, ◌-◌, ◌*◌, ◌<◌, ◌≤◌}
use native.Mathlib.Omega.{arith}
use mathlib.Core.Bool.{true, ◌&&◌}
use borrow.Author.Tests.{leb-true}
use lib.Dec.{leb}
use lib.ListN.{length, take, drop, length-append, length-drop, take-append-drop}
use lib.Seq.{take_at, take-add, take_all, length-take-le}
use Rattle.line.proofs.Runs.{and_left, and_right}
use Rattle.text.specs.Classes.{between}
use Rattle.line.specs.Runs.{every}
use Rattle.replies.proofs.Sizes.{row-short}
use Rattle.delivery.proofs.Rows.{stored-before}
use Rattle.text.specs.Writing.{stored}
use Rattle.text.proofs.Writing.{stored_is, length-stored}
use Rattle.replies.specs.Shown.{row_of}
use Rattle.delivery.specs.Acknowledged.{rows_after}
use Rattle.cardwriting.specs.Writing.{entry_at, entries_from}

-- a row of the one put into the other, behind rows that are the same
row_put : (at : ℕ) (t rows row : List ℕ) → length t ≡ length rows → at + 24 ≤ length rows → row ≡ take 24 (drop at rows) → take at t ≡ take at rows
    → take (at + 24) (stored t at row) ≡ take (at + 24) rows
row_put at t rows row l h r e =
    let n : length row ≡ 24 = ap length r ∙ length-take-le 24 (drop at rows) (omega (arith, length-drop at rows)) in
    let front : length (take at t ++ row) ≡ at + 24 = length-append (take at t) row ∙ ap₂ ◌+◌ (length-take-le at t (omega arith)) n in
    ap (take (at + 24)) (stored_is t at row (omega arith))
    ∙ take_at (take at t ++ row) (drop (at + length row) t) (at + 24) front
    ∙ ap₂ ◌++◌ e r
    ∙ sym (take-add at 24 rows)

row_is : (rows : List ℕ) (above : ℕ) → row_of rows (suc above) ≡ take 24 (drop ((suc above - 1) * 24) rows)
unfolding row_of
row_is rows above = refl

rows_next : (above : ℕ) (t rows : List ℕ) → length t ≡ length rows → 24 * suc above ≤ length rows → take (24 * above) t ≡ take (24 * above) rows
    → take (24 * suc above) (stored t ((suc above - 1) * 24) (row_of rows (suc above))) ≡ take (24 * suc above) rows
rows_next above t rows l h e =
    let at = (suc above - 1) * 24 in
    let i : 24 * suc above ≡ at + 24 = omega arith in
    let j : 24 * above ≡ at = omega arith in
    rw i (row_put at t rows (row_of rows (suc above)) l (omega arith) (row_is rows above) (rw j at e))

rows-copied : (above k : ℕ) (t rows : List ℕ) → length t ≡ length rows → 24 * (above + k) ≤ length rows → take (24 * above) t ≡ take (24 * above) rows
    → take (24 * (above + k)) (rows_after t (entries_from above k rows)) ≡ take (24 * (above + k)) rows
unfolding rows_after entries_from
rows-copied above zero t rows l h e = let z : above + 0 ≡ above = omega arith in rw z e
rows-copied above (suc k) t rows l h e =
    let z : above + suc k ≡ suc above + k = omega arith in
    let at = (suc above - 1) * 24 in
    rw z
    (rows-copied (suc above) k (stored t at (row_of rows (suc above))) rows (length-stored t at (row_of rows (suc above)) ∙ l) (omega arith) (rows_next above t rows l (omega arith) e))

length-copied : (above k : ℕ) (t rows : List ℕ) → length (rows_after t (entries_from above k rows)) ≡ length t
unfolding rows_after entries_from
length-copied above zero t rows = refl
length-copied above (suc k) t rows =
    length-copied (suc above) k (stored t ((suc above - 1) * 24) (row_of rows (suc above))) rows ∙ length-stored t ((suc above - 1) * 24) (row_of rows (suc above))

-- what lies behind the rows that are put in stays
behind-copied : (above k : ℕ) (t rows : List ℕ) → drop (24 * (above + k)) (rows_after t (entries_from above k rows)) ≡ drop (24 * (above + k)) t
unfolding rows_after entries_from
behind-copied above zero t rows = refl
behind-copied above (suc k) t rows =
    let at = (suc above - 1) * 24 in
    let row = row_of rows (suc above) in
    let z : above + suc k ≡ suc above + k = omega arith in
    rw z (behind-copied (suc above) k (stored t at row) rows ∙ stored-before t at row (24 * (suc above + k)) (omega (arith, row-short rows (suc above))))

-- places that are all 0
pub zeros-same : (s t : List ℕ) → every (between 0 0) s ≡ true → every (between 0 0) t ≡ true → length s ≡ length t → s ≡ t
unfolding every between
zeros-same [] [] h k e = refl
zeros-same [] (y ∷ t) h k e = absurd (omega (arith, e))
zeros-same (x ∷ s) [] h k e = absurd (omega (arith, e))
zeros-same (x ∷ s) (y ∷ t) h k e =
    let low = leb-true x 0 (and_right (leb 0 x) (leb x 0) (and_left (leb 0 x && leb x 0) (every (between 0 0) s) h)) in
    let also = leb-true y 0 (and_right (leb 0 y) (leb y 0) (and_left (leb 0 y && leb y 0) (every (between 0 0) t) k)) in
    ap₂ (λ (c : ℕ) (l : List ℕ). c ∷ l) {x = x} {y = y} (omega (arith, low, also))
    (zeros-same s t (and_right (leb 0 x && leb x 0) (every (between 0 0) s) h) (and_right (leb 0 y && leb y 0) (every (between 0 0) t) k) (omega (arith, e)))

-- the tables of the one, where what is unused is the same
pub all-rows : (n : ℕ) (t rows : List ℕ) → length t ≡ length rows → n * 24 ≤ length rows → drop (n * 24) t ≡ drop (n * 24) rows → rows_after t (entries_from 0 n rows) ≡ rows
all-rows n t rows l h same =
    let after = rows_after t (entries_from 0 n rows) in
    let k : n * 24 ≡ 24 * (0 + n) = omega arith in
    let d : drop (24 * (0 + n)) t ≡ drop (24 * (0 + n)) rows = rw k at same in
    sym (take-append-drop (24 * (0 + n)) after)
    ∙ ap₂ ◌++◌ (rows-copied 0 n t rows l (omega arith) refl) (behind-copied 0 n t rows ∙ d)
    ∙ take-append-drop (24 * (0 + n)) rows
