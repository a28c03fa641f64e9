-- `datasets::put_whole_row` meets its contract: its three parts, one after the other, are the row. Assumes nothing.
use mathlib.Core.Path.{◌≡◌, ap, ◌∙◌}
use mathlib.Core.List.{List, ◌++◌}
use Prim.Native.Nat.{ℕ, ◌+◌}
use native.Mathlib.Omega.{arith}
use lib.ListN.{length, take, drop, length-append, length-drop}
use lib.Seq.{take-add, take_all, length-take-le}
use Rattle.text.specs.Writing.{stored}
use Rattle.text.proofs.Writing.{and_then}
use Rattle.datasets.proofs.put_whole_row.Goals as goal

three : (row : List ℕ) → length row ≡ 24 → take 8 row ++ take 8 (drop 8 row) ++ take 8 (drop 16 row) ≡ row
three row long = rw (← take-add 8 8 row, ← take-add 16 8 row) (take_all 24 row (omega arith))

pub returns : goal.returns
returns c =
    let a = c.args in
    let row = a.row.now in
    let first = c.put_eight-a.ensures in
    let second = c.put_eight-b.ensures in
    let third = c.put_eight.ensures in
    let front : length (take 8 row) ≡ 8 = length-take-le 8 row (omega (arith, c.requires.0)) in
    let next : length (take 8 (drop 8 row)) ≡ 8 = length-take-le 8 (drop 8 row) (omega (arith, length-drop 8 row, c.requires.0)) in
    let two = and_then a.buf.now a.at (take 8 row) _ _ (take 8 (drop 8 row)) _ first.held (omega (arith, first.next, front)) second.held in
    let behind : c.put_eight-b.result ≡ a.at + length (take 8 row ++ take 8 (drop 8 row)) = rw (length-append (take 8 row) (take 8 (drop 8 row))) (omega (arith, first.next, second.next, front, next)) in
    record { next = omega (arith, first.next, second.next, third.next); held = and_then a.buf.now a.at (take 8 row ++ take 8 (drop 8 row)) _ _ (take 8 (drop 16 row)) _ two behind third.held ∙ ap (stored a.buf.now a.at) (three row c.requires.0) }
