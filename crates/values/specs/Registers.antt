-- Document 01, "The state": what each register may hold.
use Rattle.std.specs.Prelude.{Bool, ◌&&◌, ◌||◌, List, ℕ, eqb, length}
use Rattle.line.specs.Quoted.{char}
use Rattle.line.specs.Runs.{every}
use Rattle.text.specs.Classes.{between, is_digit, is_letter}
use Rattle.values.specs.Edition.{row_length}
use Rattle.values.specs.declared.Energy.{Energy}
use Rattle.values.specs.declared.Energy.TheVariants.{Total, Zone}

-- so many digits
unfoldable pub good_digits : ℕ → List ℕ → Bool
good_digits n s = eqb (length s) n && every is_digit s

-- serial, ten digits; password, eight digits
abbrev pub good_serial : List ℕ → Bool
good_serial = good_digits 10

abbrev pub good_password : List ℕ → Bool
good_password = good_digits 8

-- letter, digit, space or underscore
unfoldable pub is_account_character : ℕ → Bool
is_account_character c = (is_letter c || is_digit c) || (eqb c (char " ") || eqb c (char "_"))

-- account, ten of these
unfoldable pub good_account : List ℕ → Bool
good_account s = eqb (length s) 10 && every is_account_character s

-- a table's row: so many characters '1' to '4'
unfoldable pub good_row : List ℕ → Bool
good_row s = eqb (length s) row_length && every (between (char "1") (char "4")) s

-- a table number, of so many tables
unfoldable pub good_table : ℕ → ℕ → Bool
good_table tables n = between 1 tables n

unfoldable pub good_zone : ℕ → Bool
good_zone n = between 1 4 n

-- what stands for an energy in asks and addresses: 0 is the total, 1 to 4 are the zones
unfoldable pub energy_no : Energy → ℕ
energy_no Total = 0
energy_no (Zone z) = z.0

-- the energy of a zone
abbrev pub zone_energy : ℕ → Energy
zone_energy n = Zone (record { 0 = n })
