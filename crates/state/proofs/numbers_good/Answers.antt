-- `state::numbers_good` meets its contract: what is gathered has no eighth bit just where all are digits. Assumes nothing.
use Rattle.std.proofs.Common.{◌≡◌, ℕ, Bool, ◌&&◌, List, length, get_or, ◌∙◌, ap₂, rules, eq-eqb}
use lib.Bits.{bit_or}
use Rattle.text.specs.Classes.{is_digit}
use Rattle.values.specs.Registers.{good_digits}
use Rattle.state.specs.Fours.{in_seven}
use Rattle.state.proofs.Fours.{each_of, seven-joins, of-ten, of-eight}
use Rattle.state.proofs.numbers_good.Goals as goal

-- four characters from a place on
abbrev At : ℕ → List ℕ → ℕ → ℕ → ℕ → ℕ → Type 0
At r s i j k l = in_seven r ≡ each_of is_digit (get_or s i 0) (get_or s j 0) (get_or s k 0) (get_or s l 0)

gathered : (a b c d e : ℕ) (serial password : List ℕ) → length serial ≡ 10 → length password ≡ 8
    → At a serial 0 1 2 3 → At b serial 4 5 6 7 → At c serial 6 7 8 9 → At d password 0 1 2 3 → At e password 4 5 6 7
    → in_seven (bit_or (bit_or a (bit_or b c)) (bit_or d e)) ≡ (good_digits 10 serial && good_digits 8 password)
unfolding good_digits
gathered a b c d e serial password n m ea eb ec ed ee =
    rw (seven-joins (bit_or a (bit_or b c)) (bit_or d e), seven-joins a (bit_or b c), seven-joins b c, seven-joins d e, ea, eb, ec, ed, ee, eq-eqb (length serial) 10 n, eq-eqb (length password) 8 m)
    (ap₂ (λ (x y : Bool). x && y) (of-ten is_digit serial n) (of-eight is_digit password m))

pub returns : goal.returns
returns c =
    let args = c.args in
    let n : length args.serial ≡ 10 = search rules in
    let m : length args.password ≡ 8 = search rules in
    c.is_seven.ensures
    ∙ gathered _ _ _ _ _ args.serial args.password n m c.beside_digits.ensures c.beside_digits-2.ensures c.beside_digits-3.ensures c.beside_digits-4.ensures c.beside_digits-5.ensures
