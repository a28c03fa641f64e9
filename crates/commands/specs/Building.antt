-- Document 01, "The head": a command is built in a buffer of at least 64 bytes, or nothing is written.
use Rattle.std.specs.Prelude.{◌≡◌, Bool, true, false, cond, ◌||◌, List, ℕ, Result, Ok, Err, ◌+◌, ◌≤◌, eqb, ltb, length, set, get_or}
use Rattle.line.specs.Quoted.{char}
use Rattle.text.specs.Writing.{holding}
use Rattle.values.specs.Edition.{is_edition}
use Rattle.commands.specs.declared.Refusal.{Refusal}
use Rattle.commands.specs.declared.Refusal.TheVariants.{Field, NoEdition, Short}

-- what a builder comes to in document 01's words: 1 and the length of the command, or the number of a refusal and no length
pub record Built : Type 0 where
  pub number : ℕ
  pub length : ℕ

-- the number of a refusal
abbrev pub number_of : Refusal → ℕ
number_of Field = 9
number_of NoEdition = 16
number_of Short = 19

-- as a builder gives it
abbrev pub told : Result ℕ Refusal → Built
told (Ok n) = record { number = 1; length = n }
told (Err e) = record { number = number_of e; length = 0 }

-- Y of the confirmation: '0', '6' or '7' for a block, '1' for a session
unfoldable pub good_choice : ℕ → Bool
good_choice y = ((eqb y (char "0") || eqb y (char "6")) || eqb y (char "7")) || eqb y (char "1")

-- 19 for a buffer under 64, then 9 for a field outside its rule, else 1 with the command's length
unfoldable pub built_in : List ℕ → Bool → List ℕ → Built
built_in buf ok command =
    cond (ltb (length buf) 64) (record { number = 19; length = 0 })
    (cond ok (record { number = 1; length = length command }) (record { number = 9; length = 0 }))

-- the buffer begins with the command just where it is built, and keeps all else
unfoldable pub kept_or : List ℕ → Bool → List ℕ → List ℕ
kept_or buf ok command = cond (ltb (length buf) 64) buf (cond ok (holding buf command) buf)

-- a builder's whole promise: the buffer, whether the fields lie within their rules, the command; the answer and the buffer after it
pub record Builds (buf : List ℕ) (ok : Bool) (command : List ℕ) (r : Built) (after : List ℕ) : Type 0 where
  pub answer : r ≡ built_in buf ok command
  pub held : after ≡ kept_or buf ok command

-- [3]: of a command about a table, 16 before all else for an edition that there is not
pub record BuildsFor (edition : ℕ) (buf : List ℕ) (ok : Bool) (command : List ℕ) (r : Built) (after : List ℕ) : Type 0 where
  pub none : is_edition edition ≡ false → (r ≡ record { number = 16; length = 0 }) × (after ≡ buf)
  pub some : is_edition edition ≡ true → Builds buf ok command r after

-- what a command is made in: room for it, a first part and a content of a command's size
pub record Room (buf start content : List ℕ) : Type 0 where
  pub room : 64 ≤ length buf
  pub begun : 1 ≤ length start
  pub small : length start + length content ≤ 40

-- a field within its rule is of a command's size
pub record Small (ok : Bool) (start content : List ℕ) : Type 0 where
  pub begun : 1 ≤ length start
  pub small : ok ≡ true → length start + length content ≤ 40

-- the command stands at the front, and its length is told
pub record Made (buf command : List ℕ) (r : Built) (after : List ℕ) : Type 0 where
  pub answer : r ≡ record { number = 1; length = length command }
  pub held : after ≡ holding buf command

-- ten digits in a sign-on to a serial: three from its third character on, seven from its seventh
abbrev pub with_serial : List ℕ → List ℕ → List ℕ
with_serial call s =
    set (set (set (set (set (set (set (set (set (set call 2 (get_or s 0 0)) 3 (get_or s 1 0)) 4 (get_or s 2 0)) 6 (get_or s 3 0)) 7 (get_or s 4 0)) 8 (get_or s 5 0)) 9 (get_or s 6 0)) 10 (get_or s 7 0)) 11 (get_or s 8 0)) 12 (get_or s 9 0)
