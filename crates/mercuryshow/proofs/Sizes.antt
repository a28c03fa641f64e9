-- How long what is shown can be. Assumes nothing.
use mathlib.Core.Path.{◌≡◌, refl}
use mathlib.Core.List.{List, [], ◌∷◌, ◌++◌}
use Prim.Native.Nat.{ℕ, ◌+◌, ◌≤◌}
use native.Mathlib.Omega.{arith}
use lib.ListN.{length, length-append}
use Rattle.line.specs.Controls.{LF}
use Rattle.line.specs.Quoted.{chars}
use Rattle.numerals.specs.Numerals.{number_line}
use Rattle.numerals.proofs.Widths.{digits-few, line-few}
use Rattle.mercury.specs.declared.answering.Energy.{Energy}
use Rattle.std.specs.Prelude.{Some, None, Ok, Err}
use Rattle.std.specs.Result.{result_and}
use Rattle.mercury.specs.declared.answering.Refusal.{Refusal}
use Rattle.mercury.specs.declared.answering.Refusal.TheVariants.{Status, WrongLength, WrongCrc, OtherAddress}
use Rattle.mercury.specs.Answering.{Quantity, Answer, answer_number, answer_code}
use Rattle.mercuryshow.specs.Shown.{quantity_text, quantity_line, energy_text, answer_text, shown_number}

pub quantity-few : (q : Quantity) → length (quantity_text q) ≤ 20
unfolding quantity_text
quantity-few (Some n) = digits-few n
quantity-few None = omega arith

pub line-long : (name : List ℕ) (q : Quantity) → length (quantity_line name q) ≡ length name + length (quantity_text q) + 1
unfolding quantity_line
line-long name q = omega (arith, length-append name (quantity_text q ++ (LF ∷ [])), length-append (quantity_text q) (LF ∷ []))

pub quantity-line-few : (name : List ℕ) (q : Quantity) → length name ≡ 3 → length (quantity_line name q) ≤ 24
quantity-line-few name q n = omega (arith, line-long name q, quantity-few q)

pub energy-long : (e : Energy)
    → length (energy_text e)
    ≡ length (quantity_line (chars "A+ ") e.active_in) + length (quantity_line (chars "A- ") e.active_out)
    + length (quantity_line (chars "R+ ") e.reactive_in) + length (quantity_line (chars "R- ") e.reactive_out)
unfolding energy_text
energy-long e =
    let a = quantity_line (chars "A+ ") e.active_in in
    let b = quantity_line (chars "A- ") e.active_out in
    let c = quantity_line (chars "R+ ") e.reactive_in in
    let d = quantity_line (chars "R- ") e.reactive_out in
    omega (arith, length-append a (b ++ (c ++ d)), length-append b (c ++ d), length-append c d)

pub energy-few : (e : Energy) → length (energy_text e) ≤ 96
energy-few e =
    omega (
      arith,
      energy-long e,
      quantity-line-few (chars "A+ ") e.active_in refl,
      quantity-line-few (chars "A- ") e.active_out refl,
      quantity-line-few (chars "R+ ") e.reactive_in refl,
      quantity-line-few (chars "R- ") e.reactive_out refl,
    )

pub answer-few : (a : Answer) → length (answer_text a) ≤ 96
unfolding answer_text
answer-few (Ok e) = energy-few e
answer-few (Err WrongLength) = omega (arith, line-few 50 0)
answer-few (Err WrongCrc) = omega (arith, line-few 51 0)
answer-few (Err OtherAddress) = omega (arith, line-few 52 0)
answer-few (Err (Status code)) = omega (arith, line-few 53 code)

-- what is shown of a refusal is its number and its code
pub refused : (r : Refusal) → number_line (answer_number (Err r)) (answer_code (Err r)) ≡ answer_text (Err r)
unfolding answer_text answer_number answer_code
refused WrongLength = refl
refused WrongCrc = refl
refused OtherAddress = refl
refused (Status code) = refl

-- the refusal tells the number
pub numbered : (a : Answer) → shown_number (result_and a (Ok (tt {0}))) ≡ answer_number a
unfolding answer_number
numbered (Ok e) = refl
numbered (Err r) = refl
