-- Request [7]: where a session stands, and which session values there are.
use Rattle.std.specs.Prelude.{Bool, not, ◌&&◌, ◌||◌, List, ℕ, ◌+◌, eqb, leb}
use Rattle.line.specs.Runs.{every}
use Rattle.text.specs.Classes.{between}
use Rattle.values.specs.Edition.{is_edition, tables_of}
use Rattle.values.specs.Family.{is_family}
use Rattle.values.specs.Registers.{good_serial, good_password}
use Rattle.session.specs.declared.Session.{Session}

-- told with 1, and then good
unfoldable pub told_good : ℕ → Bool → Bool
told_good flag good = eqb flag 0 || (eqb flag 1 && good)

-- what was not told is zeros
unfoldable pub kept_good : ℕ → List ℕ → Bool
kept_good flag s = eqb flag 1 || every (between 0 0) s

-- a post needs a password, and has no more lines than there are tables
unfoldable pub work_good : ℕ → ℕ → ℕ → ℕ → Bool
work_good tables work access count = eqb work 0 || (eqb work 1 && (eqb access 1 && leb count tables))

-- one to 32 messages of work; one of all messages was sent last
unfoldable pub place_good : ℕ → ℕ → Bool
place_good count sent = (leb 1 count && leb count 32) && (leb 1 sent && leb sent (count + 4))

-- the fact: 0 it goes on, 1 done after the last message, 2 NAK, 3 a wrong reply, 4 silence
unfoldable pub fact_good : ℕ → ℕ → ℕ → Bool
fact_good count sent fact = leb fact 4 && (not (eqb fact 1) || eqb sent (count + 4))

-- the edition and the decimals, and the serial and the password where they were told
unfoldable pub session_told : Session → Bool
session_told s =
    (is_edition s.edition && is_family s.decimals)
    && ((told_good s.named (good_serial s.serial) && kept_good s.named s.serial)
    && (told_good s.access (good_password s.password) && kept_good s.access s.password))

unfoldable pub session_good : Session → Bool
session_good s =
    (session_told s && work_good (tables_of s.edition) s.work s.access s.count) && (place_good s.count s.sent && fact_good s.count s.sent s.fact)
