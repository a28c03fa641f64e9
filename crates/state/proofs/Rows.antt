-- A row written to a table that there is leaves good tables: what is held and what is unused are apart. Assumes nothing.
use Rattle.std.proofs.Common.{◌≡◌, ℕ, ◌+◌, ◌*◌, ◌≤◌, true, ◌&&◌, eqb, leb, List, [], ◌∷◌, length, take, drop, set, refl, ap, ◌∙◌, arith, drop-set-lt, eq-eqb, eqb-true, leb-true}
use lib.Seq.{take-set-lt}
use Rattle.line.specs.Runs.{every}
use Rattle.line.proofs.Runs.{and_left, and_right, and_both}
use Rattle.text.specs.Classes.{between}
use Rattle.text.specs.Writing.{stored}
use Rattle.text.proofs.Writing.{length-stored, every-stored}
use Rattle.values.specs.Registers.{good_row, good_table}
use Rattle.state.specs.Sizes.{row_length, table_places}
use Rattle.state.specs.WellFormed.{tables_good}
use Rattle.state.specs.Setting.{row_start, with_row}
use Rattle.state.proofs.Parts.{rows_long, rows-held, rows-unused}

take-stored : (n : ℕ) (t : List ℕ) (at : ℕ) (r : List ℕ) → at + length r ≤ n → take n (stored t at r) ≡ stored (take n t) at r
unfolding stored
take-stored n t at [] h = refl
take-stored n t at (x ∷ r) h =
    take-stored n (set t at x) (at + 1) r (omega arith) ∙ ap (λ (l : List ℕ). stored l (at + 1) r) (take-set-lt n t at x (omega arith))

drop-stored : (n : ℕ) (t : List ℕ) (at : ℕ) (r : List ℕ) → at + length r ≤ n → drop n (stored t at r) ≡ drop n t
unfolding stored
drop-stored n t at [] h = refl
drop-stored n t at (x ∷ r) h = drop-stored n (set t at x) (at + 1) r (omega arith) ∙ drop-set-lt n t at x (omega arith)

row_written : (tables : ℕ) (t : List ℕ) (at : ℕ) (r : List ℕ) → at + length r ≤ tables * row_length → tables_good tables t ≡ true
    → every (between 49 52) r ≡ true → tables_good tables (stored t at r) ≡ true
unfolding tables_good
row_written tables t at r h good zones =
    let all = tables * row_length in
    let size = table_places * row_length in
    and_both (eqb (length (stored t at r)) size) (every (between 49 52) (take all (stored t at r)) && every (between 0 0) (drop all (stored t at r)))
    (eq-eqb (length (stored t at r)) size (length-stored t at r ∙ rows_long tables t good))
    (and_both (every (between 49 52) (take all (stored t at r))) (every (between 0 0) (drop all (stored t at r)))
    (rw (take-stored all t at r h) (every-stored (between 49 52) (take all t) at r (rows-held tables t good) zones))
    (rw (drop-stored all t at r h) (rows-unused tables t good)))

pub row-good : (tables : ℕ) (t : List ℕ) (n : ℕ) (row : List ℕ) → tables_good tables t ≡ true → good_table tables n ≡ true → good_row row ≡ true
    → tables_good tables (with_row t n row) ≡ true
unfolding good_table good_row between
row-good tables t n row good there row_is =
    let low = leb-true 1 n (and_left (leb 1 n) (leb n tables) there) in
    let high = leb-true n tables (and_right (leb 1 n) (leb n tables) there) in
    let long = eqb-true (length row) row_length (and_left (eqb (length row) row_length) _ row_is) in
    row_written tables t (row_start n) row (omega (arith, low, high, long)) good (and_right (eqb (length row) row_length) _ row_is)
