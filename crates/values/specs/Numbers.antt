-- Where numbers stand in a text, and how large each can be.
use Rattle.std.specs.Prelude.{◌≡◌, List, ℕ, ◌+◌, ◌-◌, ◌*◌, ◌/◌, ◌%◌, ◌^◌, ◌≤◌, ◌<◌, length}
use Rattle.text.specs.Decimal.{number_at}
use Rattle.values.specs.declared.number.Three.{Three}

-- there are three from a place on, each below 100
pub record ThreeAt (s : List ℕ) (at : ℕ) : Type 0 where
  pub room : at + 8 ≤ length s
  pub first : number_at s at 2 < 100
  pub second : number_at s (at + 3) 2 < 100
  pub third : number_at s (at + 6) 2 < 100

abbrev pub three_in : List ℕ → ℕ → Three
three_in s at = record { first = number_at s at 2; second = number_at s (at + 3) 2; third = number_at s (at + 6) 2 }

-- three numbers in the first, the fourth and the seventh lane of a number
abbrev pub three_of : ℕ → Three
three_of p = record { first = p % 0x100; second = p / 0x1000000 % 0x100; third = p / 0x1000000000000 % 0x100 }

-- what a number above the least of its form has to be, to have its pairs taken
abbrev pub Above : ℕ → ℕ → Type 0
Above w low = (low ≤ w) × ((w - low) * 11 < 2 ^ 64)

-- as in dd-mm-yyyy;hh:nn:ss
pub record ClockAt (s : List ℕ) : Type 0 where
  pub long : length s ≡ 19
  pub day : number_at s 0 2 < 100
  pub month : number_at s 3 2 < 100
  pub year : number_at s 6 4 < 10000
  pub time : ThreeAt s 11

-- as in xx
pub record TableAt (s : List ℕ) : Type 0 where
  pub long : length s ≡ 2
  pub number : number_at s 0 2 < 100
