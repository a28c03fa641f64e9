-- What a value's C function tells: its number, and the characters in a lent buffer.
use Rattle.std.specs.Prelude.{◌≡◌, Bool, cond, ◌&&◌, List, ℕ, ltb, length}
use Rattle.text.specs.Writing.{holding}
use Rattle.values.specs.Family.{is_family, is_eqm}
use Rattle.values.specs.Reading.{energy_read}
use Rattle.headlink.specs.declared.fields.Counted.{Counted}

-- 1, or 25 for a value that is not in its line's form
unfoldable pub value_number : Bool → ℕ
value_number ok = cond ok 1 25

-- [10]: 18 before all else for decimals that no EQM meter has
unfoldable pub eqm_told : ℕ → List ℕ → Counted
eqm_told decimals value =
    cond (is_family decimals && is_eqm decimals)
    (record { number = value_number (energy_read decimals value).ok; count = (energy_read decimals value).number })
    (record { number = 18; count = 0 })

-- 26 for a buffer under the value's size, and the buffer kept; else the number, and the characters or as many zeros at its front
pub record Tells (buf : List ℕ) (size : ℕ) (ok : Bool) (characters : List ℕ) (r : ℕ) (after : List ℕ) : Type 0 where
  pub number : r ≡ cond (ltb (length buf) size) 26 (value_number ok)
  pub held : after ≡ cond (ltb (length buf) size) buf (holding buf characters)
