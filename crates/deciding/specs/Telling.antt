-- Document 01, "Deciding a frame": W1 data. T(dd-mm-yyyy;hh:nn:ss), K(account), Z(xx;row); else 9.
use Rattle.std.specs.Prelude.{Bool, cond, ◌&&◌, List, ℕ, ◌-◌, eqb, leb, length, get_or, take, drop}
use Rattle.line.specs.Quoted.{char}
use Rattle.values.specs.Registers.{good_account, good_row}
use Rattle.values.specs.Reading.{ClockRead, TableRead, clock_read, table_read}
use Rattle.deciding.specs.Verdicts.{Verdict, Refuse, WriteClock, WriteAccount, WriteTable}

-- a letter with something in brackets, and what stands in them
unfoldable pub enclosed : ℕ → List ℕ → Bool
enclosed letter d = leb 3 (length d) && ((eqb (get_or d 0 0) letter && eqb (get_or d 1 0) (char "(")) && eqb (get_or d (length d - 1) 0) (char ")"))

unfoldable pub inner : List ℕ → List ℕ
inner d = take (length d - 3) (drop 2 d)

abbrev pub clock_named : ClockRead → Verdict
clock_named c = cond c.ok (WriteClock c.clock) (Refuse 9)

unfoldable pub clock_told : List ℕ → Verdict
clock_told x = clock_named (clock_read x)

unfoldable pub account_told : List ℕ → Verdict
account_told x = cond (good_account x) WriteAccount (Refuse 9)

abbrev pub table_meant : TableRead → Verdict
table_meant t = cond t.ok (WriteTable t.table) (Refuse 9)

unfoldable pub table_told : ℕ → List ℕ → Verdict
table_told tables x = cond (eqb (get_or x 2 0) (char ";") && good_row (drop 3 x)) (table_meant (table_read tables (take 2 x))) (Refuse 9)

unfoldable pub told : ℕ → List ℕ → Verdict
told tables d =
    cond (enclosed (char "T") d) (clock_told (inner d))
    (cond (enclosed (char "K") d) (account_told (inner d))
    (cond (enclosed (char "Z") d) (table_told tables (inner d))
    (Refuse 9)))
