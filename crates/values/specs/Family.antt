-- Document 02, [10]: what a meter's family fixes. It is known by its decimals: 2, 3 or 4 are those of an EQM meter, and 0 names document 01's family.
use Rattle.std.specs.Prelude.{Bool, cond, not, ◌||◌, List, ℕ, eqb}
use Rattle.line.specs.Quoted.{chars}
use Rattle.text.specs.Classes.{between}

unfoldable pub is_family : ℕ → Bool
is_family family = eqb family 0 || between 2 4 family

-- an EQM meter counts what goes out as well
unfoldable pub is_eqm : ℕ → Bool
is_eqm family = not (eqb family 0)

-- a counter is shown in so many digits
unfoldable pub counter_digits : ℕ → ℕ
counter_digits family = cond (eqb family 0) 9 8

-- so many of them are decimals of a kWh; there is no other family than these
unfoldable pub counter_decimals : ℕ → ℕ
counter_decimals family = cond (eqb family 0) 3 (cond (eqb family 2) 2 (cond (eqb family 3) 3 4))

-- a counter rolls over here, and so does a total
unfoldable pub counter_end : ℕ → ℕ
counter_end family = cond (eqb family 0) 1000000000 100000000

-- so does one of what goes out; document 01's family has none, and 0 stands there
unfoldable pub export_end : ℕ → ℕ
export_end family = cond (eqb family 0) 1 100000000

-- what an energy's address begins with: what came in, and what went out
unfoldable pub import_name : ℕ → List ℕ
import_name family = cond (eqb family 0) (chars "15.8.") (chars "1.8.")

abbrev pub export_name : List ℕ
export_name = chars "2.8."
