-- What the delivery of a text to a new meter of an edition says, and nothing more.
use Rattle.std.specs.Prelude.{◌≡◌, cond, List, [], ◌∷◌, ◌++◌, ℕ, zero, suc, eqb, length, replicate}
use Rattle.line.specs.Quoted.{char}
use Rattle.line.specs.Controls.{LF}
use Rattle.text.specs.Writing.{holding}
use Rattle.numerals.specs.Numerals.{number_line}
use Rattle.clock.specs.Seconds.{date_of, time_of}
use Rattle.frames.specs.Frames.{frame_of, on_wire}
use Rattle.frames.specs.Commands.{P1}
use Rattle.frames.specs.Session.{sign_on, confirmation, password_data}
use Rattle.state.specs.declared.Meter.{Meter}
use Rattle.state.specs.WellFormed.{tables_in}
use Rattle.state.specs.Making.{facts_of, made_of}
use Rattle.replies.specs.Shown.{row_of}
use Rattle.dialogue.specs.Feeding.{left, full}
use Rattle.delivery.specs.Delivery.{DeliveredAs}

-- a meter of an edition, made from zeros, ten spaces and 2000-01-01 00:00:00; of an edition that there is not, the blank one
abbrev pub new_meter : ℕ → Meter
new_meter edition = (made_of (facts_of (replicate 10 48) (replicate 8 48) edition 1 0) (replicate 10 32) (record { date = date_of 2000 1 1; time = time_of 0 0 0 })).meter

-- sign-on, the confirmation for programming, its password
unfoldable pub opening : List ℕ
opening = on_wire (sign_on ++ (confirmation (char "5") (char "1") ++ frame_of P1 (password_data (replicate 8 (char "0")))))

unfoldable pub opened_meter : ℕ → Meter
opened_meter edition = left (new_meter edition) full opening

-- the rows of the first n tables, a line each
unfoldable pub row_lines : ℕ → List ℕ → List ℕ
row_lines zero tables = []
row_lines (suc n) tables = row_lines n tables ++ (row_of tables (suc n) ++ (LF ∷ []))

-- behind the number: the acknowledgements with 1, else the place
unfoldable pub detail : ℕ → ℕ → ℕ → ℕ
detail number place acknowledged = cond (eqb number 1) acknowledged place

-- what became of the text, and the meter's rows after it
pub record Reported (edition : ℕ) (text : List ℕ) (number : ℕ) (shown : List ℕ) : Type 0 where
  pub place : ℕ
  pub acknowledged : ℕ
  pub next : Meter
  pub delivered : DeliveredAs (opened_meter edition) text number place acknowledged next
  pub all : shown ≡ number_line number (detail number place acknowledged) ++ row_lines (tables_in next.registers) next.registers.tables

-- a buffer that begins with it, is kept past it, and its length
pub record ShowsReport (edition : ℕ) (text out : List ℕ) (number size : ℕ) (after : List ℕ) : Type 0 where
  pub shown : List ℕ
  pub is : Reported edition text number shown
  pub long : size ≡ length shown
  pub held : after ≡ holding out shown
