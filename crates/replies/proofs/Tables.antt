-- One turn of the loop over the tables: the lines of tables 01 to i, and then that of the next. Assumes nothing.
use mathlib.Core.Path.{◌≡◌, refl, ap, ap₂, ◌∙◌}
use mathlib.Core.List.{List, [], ◌∷◌}
use Prim.Native.Nat.{ℕ, suc, ◌+◌, ◌-◌, ◌*◌, ◌≤◌}
use native.Mathlib.Numerals.{add-one}
use native.Mathlib.Omega.{arith}
use lib.ListN.{length, take, drop}
use Rattle.text.specs.Writing.{stored}
use Rattle.state.specs.Sizes.{row_length}
use Rattle.state.specs.Setting.{row_start}
use Rattle.datasets.specs.Sets.{lines_of, line_of, table_set}
use Rattle.datasets.proofs.Lengths.{table-line}
use Rattle.datasets.proofs.Joined.{Lines, single, joined}
use Rattle.replies.specs.Shown.{row_of}
use Rattle.replies.specs.Block.{table_sets}
use Rattle.replies.proofs.Sizes.{row-long}

-- the part of the tables that a turn copies is the row
part-is : (rows : List ℕ) (i : ℕ) → take (i * row_length + row_length - i * row_length) (drop (i * row_length) rows) ≡ row_of rows (suc i)
unfolding row_of
part-is rows i =
    let n : i * row_length + row_length - i * row_length ≡ row_length = omega arith in
    let m : i * row_length ≡ row_start (suc i) = omega arith in
    ap₂ (λ (n m : ℕ). take n (drop m rows)) n m

pub part-long : (rows : List ℕ) (i : ℕ) → i * row_length + row_length ≤ length rows → length (take (i * row_length + row_length - i * row_length) (drop (i * row_length) rows)) ≡ row_length
part-long rows i h = ap length (part-is rows i) ∙ row-long rows i (omega arith)

pub no_table : (rows buf : List ℕ) (at : ℕ) → Lines buf at (table_sets rows 0) at buf
unfolding table_sets lines_of stored
no_table rows buf at = record { next = omega arith; held = refl }

pub next-table : (rows buf : List ℕ) (at i place : ℕ) (mid : List ℕ) (next : ℕ) (after : List ℕ) → i * row_length + row_length ≤ length rows
    → Lines buf at (table_sets rows i) place mid
    → next ≡ place + 12 + length (take (i * row_length + row_length - i * row_length) (drop (i * row_length) rows))
    → after ≡ stored mid place (line_of (table_set (i + 1) (take (i * row_length + row_length - i * row_length) (drop (i * row_length) rows))))
    → Lines buf at (table_sets rows (i + 1)) next after
unfolding table_sets
next-table rows buf at i place mid next after h l p e =
    let row = row_of rows (suc i) in
    let s = table_set (suc i) row in
    let long : length (line_of s) ≡ 36 = table-line (suc i) row ∙ omega (arith, row-long rows i (omega arith)) in
    let q : next ≡ place + 36 = omega (arith, part-long rows i h) in
    let f : after ≡ stored mid place (line_of s) = rw (part-is rows i, add-one i) at e in
    rw (add-one i) (joined (table_sets rows i) (s ∷ []) buf at place mid next after l (single s 36 mid place next after long q f))
