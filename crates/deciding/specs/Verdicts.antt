-- What a whole frame comes to: what a meter is told or asked by it, or the number of its refusal.
use Rattle.std.specs.Prelude.{ℕ, Result, Ok, Err}
use Rattle.clock.specs.declared.Clock.{Clock}
use Rattle.values.specs.declared.TableNo.{TableNo}
use Rattle.replies.specs.declared.Ask.{Ask}
use Rattle.deciding.specs.declared.Command.{Command}
use Rattle.deciding.specs.declared.Command.TheVariants.{Leave as leaving, Enter as entering, Password as trying, Read as reading, WriteClock as clock_written, WriteAccount as account_written, WriteTable as table_written}
use Rattle.deciding.specs.declared.Refusal.{Refusal}
use Rattle.deciding.specs.declared.Refusal.TheVariants.{Damaged, BadSum, TooLong, NoFrame, Unknown, NotAllowed, BadData, WrongPassword, LockedOut}

pub data Verdict : Type 0 where
  Refuse : ℕ → Verdict
  Leave : Verdict
  Enter : Verdict
  Password : Verdict
  Read : Ask → Verdict
  WriteClock : Clock → Verdict
  WriteAccount : Verdict
  WriteTable : TableNo → Verdict

-- what deciding answers, in these words
unfoldable pub command_of : Command → Verdict
command_of leaving = Leave
command_of entering = Enter
command_of trying = Password
command_of (reading a) = Read a
command_of (clock_written c) = WriteClock c
command_of account_written = WriteAccount
command_of (table_written t) = WriteTable t

unfoldable pub number_of : Refusal → ℕ
number_of Damaged = 3
number_of BadSum = 4
number_of TooLong = 5
number_of NoFrame = 6
number_of Unknown = 7
number_of NotAllowed = 8
number_of BadData = 9
number_of WrongPassword = 10
number_of LockedOut = 11

unfoldable pub verdict_of : Result Command Refusal → Verdict
verdict_of (Ok c) = command_of c
verdict_of (Err e) = Refuse (number_of e)
