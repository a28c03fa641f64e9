-- A counter's text in two halves, its first eight characters and its last: what each has in its lanes, and the number that the pairs of both say.
use Rattle.std.specs.Prelude.{Bool, cond, List, map, ℕ, ◌+◌, ◌-◌, ◌*◌, ◌/◌, ◌%◌, eqb, take, drop}
use Rattle.text.specs.Layout.{pattern}
use Rattle.eights.specs.Lanes.{lanes, least, common, spare, keeps}
use Rattle.values.specs.declared.counter.Form.{Form}
use Rattle.values.specs.Family.{counter_digits, counter_decimals}
use Rattle.values.specs.Texts.{counter_form}

-- of eight characters of a pattern
abbrev pub form_of : List ℕ → Form
form_of p = record { low = lanes (map least p); bits = lanes (map common p); spare = lanes (map spare p) }

abbrev pub keeps_form : Form → ℕ → Bool
keeps_form f w = keeps f.low f.bits f.spare w

-- ######.###*kWh, or as another family shows it
abbrev pub counter_pattern : ℕ → List ℕ
counter_pattern family = pattern (counter_form (counter_digits family) (counter_decimals family))

-- its first eight characters, and its last: the unit and four before it
unfoldable pub first_form : ℕ → Form
first_form family = form_of (take 8 (counter_pattern family))

unfoldable pub last_form : ℕ → Form
last_form family = form_of (drop (counter_digits family - 3) (counter_pattern family))

-- all digits but the last two: four in front, then those in the third pair of the first half and in the first pair of the last.
-- The point counts nothing there, and a digit that stands in both pairs counts in one of them.
unfoldable pub upper_of : ℕ → ℕ → ℕ → ℕ → ℕ
upper_of family front third first =
    cond (eqb family 0) ((front * 100 + third) * 10 + first)
    (cond (eqb family 2) (front * 100 + third) (cond (eqb family 3) (front * 100 + third + first) (front * 100 + first)))

abbrev pub counter_of : ℕ → ℕ → ℕ → ℕ
counter_of family p q = upper_of family (p % 0x100 * 100 + p / 0x10000 % 0x100) (p / 0x100000000 % 0x100) (q % 0x100) * 100 + q / 0x10000 % 0x100
