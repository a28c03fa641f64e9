-- Document 01, "Receiving" and "Deciding a frame": what opens a session, as characters.
use Rattle.std.specs.Prelude.{Bool, cond, ◌||◌, List, ◌∷◌, ◌++◌, ℕ, eqb}
use Rattle.line.specs.Quoted.{char, chars}
use Rattle.line.specs.Controls.{ACK}
use Rattle.values.specs.Texts.{serial_text, wired_text}
use Rattle.frames.specs.Commands.{bracketed}

-- /?! CR LF
unfoldable pub sign_on : List ℕ
sign_on = chars "/?!\r\n"

-- /C! CR LF, which closes a period
unfoldable pub closing_sign_on : List ℕ
closing_sign_on = chars "/C!\r\n"

-- /?nnn nnnnnnn! CR LF
unfoldable pub sign_on_to : List ℕ → List ℕ
sign_on_to serial = chars "/?" ++ (serial_text serial ++ chars "!\r\n")

-- [14], the wired link: '/', a letter, nnn.nnnnnnn CR LF; 'A' calls the meter of a serial, 'g' is its answer
unfoldable pub wired_line : ℕ → List ℕ → List ℕ
wired_line letter serial = chars "/" ++ (letter ∷ (wired_text serial ++ chars "\r\n"))

abbrev pub wired_sign_on : List ℕ → List ℕ
wired_sign_on serial = wired_line (char "A") serial

abbrev pub wired_answer : List ℕ → List ℕ
wired_answer serial = wired_line (char "g") serial

-- ACK 0 V Y CR LF
unfoldable pub confirmation : ℕ → ℕ → List ℕ
confirmation v y = ACK ∷ (chars "0" ++ (v ∷ y ∷ chars "\r\n"))

-- V is '0' or '5': speed identifier 0 (300 baud) or 5 (9600)
unfoldable pub good_speed : ℕ → Bool
good_speed v = eqb v (char "0") || eqb v (char "5")

unfoldable pub speed_said : ℕ → ℕ
speed_said v = cond (eqb v (char "5")) 5 0

-- P1: (), or the password in brackets
unfoldable pub enter_data : List ℕ
enter_data = chars "()"

unfoldable pub password_data : List ℕ → List ℕ
password_data password = bracketed password
