-- [14], "The second link": all that a meter's link rules of its dialogue. How it is called and what it answers, which digits confirm, what a refusal
-- replies and where it leads; the speed is `rest_speed`.
use Rattle.std.specs.Prelude.{Bool, cond, not, ◌&&◌, ◌||◌, List, [], ℕ, eqb, replicate}
use Rattle.line.specs.Quoted.{char}
use Rattle.text.specs.Classes.{same_text}
use Rattle.frames.specs.Session.{sign_on, closing_sign_on, sign_on_to, wired_sign_on, wired_answer}
use Rattle.state.specs.Link.{is_wired}
use Rattle.replies.specs.Fixed.{identification, refused}

-- 000 0000000
abbrev pub zeros : List ℕ
zeros = replicate 10 (char "0")

-- `/?!`, or `/?nnn nnnnnnn!` with our serial or zeros
unfoldable pub optical_call : List ℕ → List ℕ → Bool
optical_call line serial = (same_text line sign_on || same_text line (sign_on_to serial)) || same_text line (sign_on_to zeros)

-- `/Annn.nnnnnnn` with our serial or zeros
unfoldable pub wired_call : List ℕ → List ℕ → Bool
wired_call line serial = same_text line (wired_sign_on serial) || same_text line (wired_sign_on zeros)

-- the line is a sign-on; what is one on the one link is another line on the other
unfoldable pub calls : ℕ → List ℕ → List ℕ → Bool
calls link line serial = cond (is_wired link) (wired_call line serial) (optical_call line serial)

-- [12]: it is `/C!`, on the optical link
unfoldable pub closes : ℕ → List ℕ → Bool
closes link line = not (is_wired link) && same_text line closing_sign_on

-- the answer to a sign-on; on the wired link it has our serial, whoever was called
unfoldable pub identified : ℕ → ℕ → List ℕ → List ℕ
identified link edition serial = cond (is_wired link) (wired_answer serial) (identification edition)

-- the confirmation's digit is '5'; on the optical link '0' too
unfoldable pub slow_too : ℕ → Bool
slow_too link = not (is_wired link)

-- refusals 3 to 11, and silence in mode 1, reply NAK on the optical link, nothing on the wired one
unfoldable pub refused_reply : ℕ → List ℕ
refused_reply link = cond (is_wired link) [] refused

-- after 3 to 11 modes 3 and 4 stay on the optical link, mode 2 falls to mode 0; on the wired one every mode does
unfoldable pub after_refusal : ℕ → ℕ → ℕ
after_refusal link mode = cond (is_wired link || eqb mode 2) 0 mode
