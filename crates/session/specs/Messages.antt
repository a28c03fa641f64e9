-- Request [7]: the messages of a session, in order: sign-on, confirmation, password or `()`, the work, B0.
use Rattle.std.specs.Prelude.{Bool, true, false, cond, ◌&&◌, List, [], ◌∷◌, ℕ, ◌+◌, ◌-◌, ◌*◌, eqb, leb, get_or, take, drop}
use Rattle.line.specs.Quoted.{char, chars}
use Rattle.text.specs.Classes.{same_text}
use Rattle.values.specs.Edition.{tables_of, row_length}
use Rattle.values.specs.Reading.{table_read}
use Rattle.commands.specs.Spoken.{Command, enter, password, read_clock, read_serial, read_account, read_total, read_zone, read_total_out, read_zone_out, read_table, write_table, good_fields}
use Rattle.commands.specs.Messages.{Message, call, call_to, confirm, command, leave}
use Rattle.session.specs.declared.Session.{Session}

-- any meter, or the one of a serial
unfoldable pub calling : Session → Message
calling s = cond (eqb s.named 1) (call_to s.serial) call

-- `()`, or the password
unfoldable pub entering : Session → Message
entering s = cond (eqb s.access 1) (command (password s.password)) (command enter)

-- a read: a letter of R1, and the number of an energy or a table; another letter asks for a table that is none
unfoldable pub read_of : ℕ → ℕ → Command
read_of letter n =
    cond (eqb letter (char "T")) read_clock
    (cond (eqb letter (char "L")) read_serial
    (cond (eqb letter (char "K")) read_account
    (cond (eqb letter (char "E")) (cond (eqb n 0) read_total (read_zone n))
    (cond (eqb letter (char "G")) (cond (eqb n 0) read_total_out (read_zone_out n))
    (cond (eqb letter (char "Z")) (read_table n) (read_table 0))))))

-- a list of reads: letter and number, one read after the other
unfoldable pub read_at : List ℕ → ℕ → Command
read_at work i = read_of (get_or work (i * 2) 0) (get_or work (i * 2 + 1) 0)

-- the reads are such as the head can build, of a meter with so many tables and of a family
unfoldable pub reads_good : ℕ → ℕ → List ℕ → Bool
reads_good tables family [] = true
reads_good tables family (letter ∷ []) = false
reads_good tables family (letter ∷ n ∷ more) = good_fields tables family (read_of letter n) && reads_good tables family more

-- what stands in a post's line beside its number and its row
unfoldable pub whole_line : List ℕ → Bool
whole_line s = (same_text (take 6 s) (chars "131.0.") && eqb (get_or s 8 0) (char "(")) && same_text (drop 33 s) (chars ")\r\n")

-- its number and its row as a table write; another line asks for a table that is none
unfoldable pub row_in : ℕ → List ℕ → Command
row_in tables s = cond (whole_line s) (write_table (table_read tables (take 2 (drop 6 s))).table.0 (take row_length (drop 9 s))) (write_table 0 [])

-- a post: its lines, 36 characters each
unfoldable pub row_at : ℕ → List ℕ → ℕ → Command
row_at tables work i = row_in tables (take 36 (drop (i * 36) work))

unfoldable pub work_at : Session → List ℕ → ℕ → Command
work_at s work i = cond (eqb s.work 1) (row_at (tables_of s.edition) work i) (read_at work i)

-- the message of a number, the sign-on being 1
unfoldable pub message_at : Session → List ℕ → ℕ → Message
message_at s work n =
    cond (eqb n 1) (calling s)
    (cond (eqb n 2) (confirm (char "5") (char "1"))
    (cond (eqb n 3) (entering s)
    (cond (leb n (s.count + 3)) (command (work_at s work (n - 4))) leave)))

-- how many there are
abbrev pub messages : Session → ℕ
messages s = s.count + 4
