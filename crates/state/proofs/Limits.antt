-- How many characters a mode holds at most. Assumes nothing.
use Rattle.std.proofs.Common.{ℕ, ◌≤◌, Bool, true, false, cond, eqb, arith}
use Rattle.state.specs.Sizes.{most_held}
use Rattle.state.specs.WellFormed.{limit}

-- no mode holds more
at_most : (b : Bool) (x y m : ℕ) → x ≤ m → y ≤ m → cond b x y ≤ m
at_most true x y m h k = h
at_most false x y m h k = k

pub limit-most : (mode : ℕ) → limit mode ≤ most_held
unfolding limit
limit-most mode = at_most (eqb mode 0) 31 _ most_held (omega arith) (at_most (eqb mode 1) 5 most_held most_held (omega arith) (omega arith))
