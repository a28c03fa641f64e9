-- How a wrong answer is told from the right one: something that is looked at differs. Assumes nothing.
use mathlib.Core.Path.{◌≡◌, ap}
use mathlib.Core.Bool.{Bool, false, cond}
use mathlib.Core.List.{List}
use Prim.Native.Nat.{ℕ}
use borrow.Author.Tests.{eqb-false}
use lib.Dec.{eqb}
use lib.ListN.{length, get_or}
use Rattle.mistakes.specs.RuledOut.{RuledOut}

pub seen : {A : Type 0} (look : A → ℕ) {right wrong : A} → eqb (look wrong) (look right) ≡ false → RuledOut right wrong
seen look {right} {wrong} e h = eqb-false (look wrong) (look right) e (ap look h)

pub number : {right wrong : ℕ} → eqb wrong right ≡ false → RuledOut right wrong
number = seen (λ (n : ℕ). n)

pub flag : {right wrong : Bool} → eqb (cond wrong 1 0) (cond right 1 0) ≡ false → RuledOut right wrong
flag = seen (λ (b : Bool). cond b 1 0)

-- the character at a place
pub byte : (at : ℕ) {right wrong : List ℕ} → eqb (get_or wrong at 0) (get_or right at 0) ≡ false → RuledOut right wrong
byte at = seen (λ (s : List ℕ). get_or s at 0)

pub long : {right wrong : List ℕ} → eqb (length wrong) (length right) ≡ false → RuledOut right wrong
long = seen (λ (s : List ℕ). length s)
