-- The sign-on and the confirmation as the receiver holds them: without their last character, which is on its way.
use Rattle.std.specs.Prelude.{Bool, ◌&&◌, ◌||◌, List, [], ◌∷◌, ◌++◌, ℕ}
use Rattle.line.specs.Quoted.{char, chars}
use Rattle.line.specs.Controls.{LF}
use Rattle.text.specs.Classes.{same_text}
use Rattle.values.specs.Texts.{serial_text}
use Rattle.frames.specs.Session.{confirmation}
use Rattle.meter.specs.Link.{calls, closes, slow_too}

-- /?nnn nnnnnnn! CR
unfoldable pub our_line : List ℕ → List ℕ
our_line serial = chars "/?" ++ (serial_text serial ++ chars "!\r")

-- the line with its LF is a sign-on of the link
abbrev pub signs_on_by : ℕ → List ℕ → List ℕ → Bool
signs_on_by link held serial = calls link (held ++ (LF ∷ [])) serial

-- [12]: it is the one that closes a period
abbrev pub closes_by : ℕ → List ℕ → Bool
closes_by link held = closes link (held ++ (LF ∷ []))

-- ACK 0 V Y CR LF, V being '5', or '0' where the link has it
unfoldable pub confirms : ℕ → List ℕ → ℕ → ℕ → Bool
confirms link five c y =
    same_text (five ++ (c ∷ [])) (confirmation (char "5") y) || (slow_too link && same_text (five ++ (c ∷ [])) (confirmation (char "0") y))

-- Y is '0' or '7'
unfoldable pub wants_block : ℕ → List ℕ → ℕ → Bool
wants_block link five c = confirms link five c (char "0") || confirms link five c (char "7")

-- [12]: Y is '6'
unfoldable pub wants_periods : ℕ → List ℕ → ℕ → Bool
wants_periods link five c = confirms link five c (char "6")

-- Y is '1'
unfoldable pub wants_program : ℕ → List ℕ → ℕ → Bool
wants_program link five c = confirms link five c (char "1")
