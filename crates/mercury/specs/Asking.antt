-- Document 02, request 9: the request for accumulated energy, code 05 hex.
use Rattle.std.specs.Prelude.{◌≡◌, Result, Ok, Err, Bool, cond, not, ◌&&◌, ◌||◌, List, [], ◌∷◌, ℕ, ◌+◌, ◌*◌, eqb, leb, ltb, length}
use Rattle.text.specs.Writing.{holding}
use Rattle.crc.specs.Crc.{with_crc}
use Rattle.mercury.specs.declared.asking.Refusal.{Refusal}
use Rattle.mercury.specs.declared.asking.Refusal.TheVariants.{Field, Short}

-- arrays 0 to 5 and 9 to D hex
unfoldable pub good_array : ℕ → Bool
good_array a = leb a 5 || (leb 9 a && leb a 13)

-- the arrays of months
unfoldable pub monthly : ℕ → Bool
monthly a = eqb a 3 || eqb a 11

-- month 1 to 12 with those, else 0
unfoldable pub good_month : ℕ → ℕ → Bool
good_month a m = (monthly a && (leb 1 m && leb m 12)) || (not (monthly a) && eqb m 0)

-- tariff 0 to 4
unfoldable pub good_fields : ℕ → ℕ → ℕ → Bool
good_fields array month tariff = good_array array && (good_month array month && leb tariff 4)

-- address, code, array in the high and month in the low four bits, tariff, CRC
unfoldable pub request_of : ℕ → ℕ → ℕ → ℕ → List ℕ
request_of address array month tariff = with_crc (address ∷ 0x05 ∷ (array * 16 + month) ∷ tariff ∷ [])

-- the number of the answer, and how long the request is
pub record Asked : Type 0 where
  pub number : ℕ
  pub length : ℕ

-- the number of a refusal, and of a request that is built
abbrev pub told : Result ℕ Refusal → Asked
told (Ok n) = record { number = 1; length = n }
told (Err Field) = record { number = 54; length = 0 }
told (Err Short) = record { number = 55; length = 0 }

-- 54 for a field out of range, then 55 for a short output, else 1 with the request's length
unfoldable pub asked_in : List ℕ → Bool → Asked
asked_in out good =
    cond good (cond (ltb (length out) 6) (record { number = 55; length = 0 }) (record { number = 1; length = 6 }))
    (record { number = 54; length = 0 })

-- the output begins with the request just where the answer is 1, and keeps all else
unfoldable pub asked_into : List ℕ → Bool → List ℕ → List ℕ
asked_into out good request = cond good (cond (ltb (length out) 6) out (holding out request)) out

-- the builder's whole promise
pub record Asks (out : List ℕ) (good : Bool) (request : List ℕ) (r : Asked) (after : List ℕ) : Type 0 where
  pub answer : r ≡ asked_in out good
  pub held : after ≡ asked_into out good request
