-- How matters stand after a past: the mode, the failed passwords, and the bytes that were said since the mode began or the last frame was whole.
use Rattle.std.specs.Prelude.{Bool, cond, not, ◌&&◌, ◌||◌, List, [], ◌∷◌, ◌++◌, ℕ, ◌+◌, eqb, leb, ltb, length, replicate}
use Rattle.line.specs.Controls.{SOH, ETX}
use Rattle.line.specs.Quoted.{char}
use Rattle.text.specs.Classes.{same_text}
use Rattle.values.specs.Edition.{tables_of}
use Rattle.frames.specs.Session.{sign_on, closing_sign_on, sign_on_to, wired_sign_on, confirmation}
use Rattle.state.specs.Link.{is_wired}
use Rattle.state.specs.declared.Facts.{Facts}
use Rattle.meter.specs.declared.Event.{Event}
use Rattle.meter.specs.declared.Event.TheVariants.{Character, Silence, Tick, Pulse, PowerUp, PulseOut, Unknown}
use Rattle.history.specs.Saying.{carries, says, since, ends_with}
use Rattle.history.specs.Frames.{leaves, enters, tries, password_in, is_taken}

pub record Standing : Type 0 where
  pub mode : ℕ
  pub failed : ℕ
  pub said : List ℕ

abbrev pub standing_as : ℕ → ℕ → List ℕ → Standing
standing_as mode failed said = record { mode = mode; failed = failed; said = said }

-- a mode begins, or a frame is over: nothing is said yet
abbrev pub anew : Standing → ℕ → Standing
anew s mode = standing_as mode s.failed []

-- a byte is said, and nothing comes of it yet
abbrev pub said_more : Standing → ℕ → Standing
said_more s b = standing_as s.mode s.failed (s.said ++ (b ∷ []))

-- listening: what was said from the last '/' on is a sign-on
unfoldable pub calls : List ℕ → List ℕ → Bool
calls text said = says (since (char "/") said) text

abbrev pub zeros : List ℕ
zeros = replicate 10 (char "0")

-- on the optical link /?!, or that with our serial or zeros, or /C!; on the wired one /A with our serial or zeros; each with CR LF
unfoldable pub calls_optical : List ℕ → List ℕ → Bool
calls_optical serial said = (calls sign_on said || calls (sign_on_to serial) said) || calls (sign_on_to zeros) said

unfoldable pub calls_wired : List ℕ → List ℕ → Bool
calls_wired serial said = calls (wired_sign_on serial) said || calls (wired_sign_on zeros) said

unfoldable pub closes_period : Facts → List ℕ → Bool
closes_period facts said = not (is_wired facts.link) && calls closing_sign_on said

unfoldable pub signs_on : Facts → List ℕ → Bool
signs_on facts said = cond (is_wired facts.link) (calls_wired facts.serial said) (calls_optical facts.serial said) || closes_period facts said

abbrev pub listened : Facts → Standing → ℕ → Standing
listened facts s b = cond (signs_on facts (s.said ++ (b ∷ []))) (anew s 1) (said_more s b)

-- confirmation: six bytes are said; ACK 0 V 1 CR LF with V 5, or 0 on the optical link, asks for the password, and all else ends in listening
unfoldable pub asks_for_password : Facts → List ℕ → Bool
asks_for_password facts six = says six (confirmation (char "5") (char "1")) || (not (is_wired facts.link) && says six (confirmation (char "0") (char "1")))

abbrev pub six_said : Facts → Standing → ℕ → Standing
six_said facts s b = cond (ltb (length (s.said ++ (b ∷ []))) 6) (said_more s b) (cond (asks_for_password facts (s.said ++ (b ∷ []))) (anew s 2) (anew s 0))

-- a session: a frame is what was said from the last SOH on. Behind its ETX one byte more, whatever it is, makes it whole
unfoldable pub opened : List ℕ → List ℕ
opened said = since SOH said

abbrev pub frame_by : Standing → ℕ → List ℕ
frame_by s b = opened s.said ++ (b ∷ [])

abbrev pub is_whole : Standing → Bool
is_whole s = ends_with ETX (opened s.said)

-- a 64th byte that does not start another is too many
abbrev pub is_too_many : Standing → ℕ → Bool
is_too_many s b = leb 63 (length (opened s.said)) && not (carries SOH b)

-- what is refused ends the password's mode, and on the wired link any session
unfoldable pub refused_in : Facts → ℕ → ℕ
refused_in facts mode = cond (is_wired facts.link || eqb mode 2) 0 mode

-- a password: the third failed locks; the right one leaves none failed
abbrev pub password_said : Facts → Standing → List ℕ → Standing
password_said facts s password =
    cond (eqb s.failed 3) (anew s 0)
    (cond (same_text password facts.password) (standing_as 4 0 []) (standing_as 0 (s.failed + 1) []))

-- in mode 2 () enters to read, and a password is tried
abbrev pub entered : Facts → Standing → List ℕ → Standing
entered facts s frame = cond (enters frame) (anew s 3) (cond (tries frame) (password_said facts s (password_in frame)) (anew s 0))

-- a whole frame
abbrev pub framed : Facts → Standing → List ℕ → Standing
framed facts s frame =
    cond (eqb s.mode 2) (entered facts s frame)
    (cond (leaves frame) (anew s 0)
    (cond (is_taken (tables_of facts.edition) facts.decimals s.mode frame) (anew s s.mode) (anew s (refused_in facts s.mode))))

abbrev pub in_session : Facts → Standing → ℕ → Standing
in_session facts s b = cond (is_whole s) (framed facts s (frame_by s b)) (cond (is_too_many s b) (anew s (refused_in facts s.mode)) (said_more s b))

abbrev pub after_byte : Facts → Standing → ℕ → Standing
after_byte facts s b = cond (eqb s.mode 0) (listened facts s b) (cond (eqb s.mode 1) (six_said facts s b) (in_session facts s b))

-- after a past, the newest first
unfoldable pub standing : Facts → List Event → Standing
standing facts [] = standing_as 0 0 []
standing facts (Character b ∷ past) = after_byte facts (standing facts past) b
standing facts (Silence ∷ past) = anew (standing facts past) 0
standing facts (Tick ∷ past) = standing facts past
standing facts (Pulse units ∷ past) = standing facts past
standing facts (PulseOut units ∷ past) = standing facts past
standing facts (PowerUp ∷ past) = standing_as 0 0 []
standing facts (Unknown ∷ past) = standing facts past
