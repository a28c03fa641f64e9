-- Document 01, "The head": a reply's parity is stripped into a second buffer, or nothing is written.
use Rattle.std.specs.Prelude.{◌≡◌, Bool, cond, List, map, ℕ, ltb, length, Result, Ok, Err}
use Rattle.line.specs.Characters.{seven, undamaged_all}
use Rattle.damage.specs.First.{first_damaged}
use Rattle.text.specs.Writing.{holding}
use Rattle.blocks.specs.declared.Refusal.{Refusal}
use Rattle.blocks.specs.Refusals.{number_of, place_of}

-- what stripping answers: with 24 the place of the first damaged byte, else 0
pub record Stripped : Type 0 where
  pub number : ℕ
  pub length : ℕ
  pub place : ℕ

abbrev pub strip_told : Result ℕ Refusal → Stripped
strip_told (Ok n) = record { number = 1; length = n; place = 0 }
strip_told (Err refusal) = record { number = number_of refusal; length = 0; place = place_of refusal }

-- 26 for a buffer shorter than the reply, then 24 for a damaged byte, with the place of the first ([2]), else 1 with the reply's length
abbrev pub stripped_by : List ℕ → Bool → Bool → Stripped
stripped_by reply short whole =
    cond short (record { number = 26; length = 0; place = 0 })
    (cond whole (record { number = 1; length = length reply; place = 0 }) (record { number = 24; length = 0; place = first_damaged reply }))

unfoldable pub stripped_of : List ℕ → List ℕ → Stripped
stripped_of reply out = stripped_by reply (ltb (length out) (length reply)) (undamaged_all reply)

-- the second buffer begins with the seven bits of each byte just where the answer is 1, and keeps all else
unfoldable pub stripped_into : List ℕ → List ℕ → List ℕ
stripped_into reply out =
    cond (ltb (length out) (length reply)) out (cond (undamaged_all reply) (holding out (map seven reply)) out)

pub record Strips (reply out : List ℕ) (r : Stripped) (after : List ℕ) : Type 0 where
  pub answer : r ≡ stripped_of reply out
  pub held : after ≡ stripped_into reply out
