-- Document 01, "The state": a real date in 2000 to 2099, with time.
use Rattle.std.specs.Prelude.{Bool, cond, not, ◌&&◌, ◌||◌, ℕ, ◌%◌, eqb, leb}

-- every fourth year, but of the whole centuries every fourth
unfoldable pub leap : ℕ → Bool
leap y = eqb (y % 4) 0 && (not (eqb (y % 100) 0) || eqb (y % 400) 0)

unfoldable pub thirty : ℕ → Bool
thirty m = ((eqb m 4 || eqb m 6) || eqb m 9) || eqb m 11

-- how many days a month has, in a leap year or not
abbrev pub days_of : Bool → ℕ → ℕ
days_of long m = cond (eqb m 2) (cond long 29 28) (cond (thirty m) 30 31)

unfoldable pub days_in : ℕ → ℕ → ℕ
days_in y m = days_of (leap y) m

unfoldable pub real_date : ℕ → ℕ → ℕ → Bool
real_date y m d = ((leb 2000 y && leb y 2099) && (leb 1 m && leb m 12)) && (leb 1 d && leb d (days_in y m))

unfoldable pub real_time : ℕ → ℕ → ℕ → Bool
real_time h n s = (leb h 23 && leb n 59) && leb s 59
