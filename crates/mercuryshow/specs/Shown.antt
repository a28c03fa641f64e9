-- What is shown of a captured exchange, and nothing more.
use Rattle.std.specs.Prelude.{◌≡◌, Result, Some, None, Ok, Err, List, [], ◌∷◌, ◌++◌, ℕ, length, get_or, drop}
use Rattle.std.specs.Result.{result_and}
use Rattle.line.specs.Controls.{LF}
use Rattle.line.specs.Quoted.{chars}
use Rattle.text.specs.Writing.{holding}
use Rattle.numerals.specs.declared.Shown.{Shown}
use Rattle.numerals.specs.Numerals.{digits_of, number_line}
use Rattle.mercury.specs.declared.answering.Energy.{Energy}
use Rattle.mercury.specs.declared.answering.Refusal.{Refusal}
use Rattle.mercury.specs.declared.answering.Refusal.TheVariants.{Status, WrongLength, WrongCrc, OtherAddress}
use Rattle.mercury.specs.Answering.{Quantity, Answer, read_of, answer_number}

-- a number, or `-` where nothing was measured
unfoldable pub quantity_text : Quantity → List ℕ
quantity_text (Some n) = digits_of n
quantity_text None = chars "-"

unfoldable pub quantity_line : List ℕ → Quantity → List ℕ
quantity_line name q = name ++ (quantity_text q ++ (LF ∷ []))

-- active energy in and out, reactive energy in and out
unfoldable pub energy_text : Energy → List ℕ
energy_text e =
    quantity_line (chars "A+ ") e.active_in
    ++ (quantity_line (chars "A- ") e.active_out ++ (quantity_line (chars "R+ ") e.reactive_in ++ quantity_line (chars "R- ") e.reactive_out))

-- or the number, and the code of a status
unfoldable pub answer_text : Answer → List ℕ
answer_text (Ok e) = energy_text e
answer_text (Err WrongLength) = number_line 50 0
answer_text (Err WrongCrc) = number_line 51 0
answer_text (Err OtherAddress) = number_line 52 0
answer_text (Err (Status code)) = number_line 53 code

-- the answer in a capture, behind the six bytes of the request, read for the address that was asked
unfoldable pub exchange_read : List ℕ → Answer
exchange_read capture = read_of (get_or capture 0 0) (drop 6 capture)

-- the number of what is shown: 1, or that of the refusal
abbrev pub shown_number : {A : Type 0} → Result A Refusal → ℕ
shown_number (Ok done) = 1
shown_number (Err refusal) = answer_number (Err refusal)

-- a buffer begins with the text and is kept past it; whether energy was shown, and by that its number, and its length
pub record Shows (capture out : List ℕ) (r : Shown Refusal) (after : List ℕ) : Type 0 where
  pub outcome : r.outcome ≡ result_and (exchange_read capture) (Ok (tt {0}))
  pub number : shown_number r.outcome ≡ answer_number (exchange_read capture)
  pub long : r.length ≡ length (answer_text (exchange_read capture))
  pub held : after ≡ holding out (answer_text (exchange_read capture))
