-- What is shown of a captured reply, and nothing more: each data set of its block on a line, or the first with an address; for a refusal
-- its number and the place.
use Rattle.std.specs.Prelude.{◌≡◌, cond, List, [], ◌∷◌, ◌++◌, map, ℕ, eqb, length, take, drop, replicate, Option, Some, None, Result, Ok, Err, IfErr}
use Rattle.std.specs.Borrow.{Bor}
use Rattle.line.specs.Characters.{seven}
use Rattle.line.specs.Controls.{LF}
use Rattle.line.specs.Quoted.{chars}
use Rattle.text.specs.DataSet.{DataSet}
use Rattle.text.specs.Writing.{holding}
use Rattle.numerals.specs.declared.Shown as numerals
use Rattle.numerals.specs.Numerals.{number_line}
use Rattle.blocks.specs.Parts.{part_of}
use Rattle.blocks.specs.Stripping.{stripped_of}
use Rattle.reading.specs.Whole.{Found, read_all}
use Rattle.finding.specs.Finding.{Lookup, lookup, pointed_at}
use Rattle.showing.specs.declared.Refusal.{Refusal}
use Rattle.showing.specs.Refusals.{refusal_number, refusal_place}

-- what is shown: 1 or the number of the refusal, and how many bytes of the buffer are to be written
pub record Shown : Type 0 where
  pub number : ℕ
  pub length : ℕ

abbrev pub number_told : {A : Type 0} → Result A Refusal → ℕ
number_told (Ok done) = 1
number_told (Err refusal) = refusal_number refusal

abbrev pub written_told : numerals.Shown Refusal → Shown
written_told w = record { number = number_told w.outcome; length = w.length }

-- 1, or the number of the refusal; and the text
pub record Readout : Type 0 where
  pub number : ℕ
  pub text : List ℕ

-- address, a space, value, LF
unfoldable pub set_line : DataSet → List ℕ
set_line d = d.address ++ (chars " " ++ (d.value ++ (LF ∷ [])))

-- one below the other
unfoldable pub set_lines : List DataSet → List ℕ
set_lines [] = []
set_lines (d ∷ ds) = set_line d ++ set_lines ds

-- the sets up to the end, which is done; or up to a malformed one, and then its number and its place
unfoldable pub found_shown : Found → Readout
found_shown f =
    cond (eqb f.number 0) (record { number = 1; text = set_lines f.sets })
    (record { number = f.number; text = set_lines f.sets ++ number_line f.number f.place })

-- every data set of some data
unfoldable pub sets_shown : List ℕ → Readout
sets_shown s = found_shown (read_all s)

-- a refusal: its number and its place
unfoldable pub refusal_shown : ℕ → ℕ → Readout
refusal_shown number place = record { number = number; text = number_line number place }

-- the set that a lookup points at; 25 has the place of the malformed set, 27 has 0
unfoldable pub lookup_shown : List ℕ → Lookup → Readout
lookup_shown s l = cond (eqb l.number 1) (record { number = 1; text = set_line (pointed_at s l) }) (refusal_shown l.number l.place)

-- the first data set with an address
unfoldable pub first_shown : List ℕ → List ℕ → Readout
first_shown a s = lookup_shown s (lookup s a)

-- every data set, or the first with the address that is wanted
abbrev pub wanted_shown : Option (Bor (List ℕ)) → List ℕ → Readout
wanted_shown None = sets_shown
wanted_shown (Some address) = first_shown address.now

-- what is to be shown of a block's data; a block without a part is refused with 22 or 23
unfoldable pub block_shown : (List ℕ → Readout) → List ℕ → Readout
block_shown shown b =
    cond (eqb (part_of b).number 1) (shown (take (part_of b).length (drop (part_of b).start b))) (refusal_shown (part_of b).number 0)

-- so many bytes of a reply are taken
abbrev pub longest : ℕ
longest = 4096

-- and of a reply's; a longer reply is refused with 26, a damaged one with 24 and the place of its first damaged byte ([2])
unfoldable pub reply_shown : (List ℕ → Readout) → List ℕ → Readout
reply_shown shown reply =
    cond (eqb (stripped_of reply (replicate longest 0)).number 1) (block_shown shown (map seven reply)) (refusal_shown (stripped_of reply (replicate longest 0)).number (stripped_of reply (replicate longest 0)).place)

unfoldable pub readout_shown : List ℕ → Readout
readout_shown reply = reply_shown sets_shown reply

unfoldable pub register_shown : List ℕ → List ℕ → Readout
register_shown reply a = reply_shown (first_shown a) reply

-- the place that a refusal is shown with: where the reading or the lookup ended, of the first damaged byte, or 0
abbrev pub wanted_place : Option (Bor (List ℕ)) → List ℕ → ℕ
wanted_place None s = (read_all s).place
wanted_place (Some address) s = (lookup s address.now).place

unfoldable pub block_place : (List ℕ → ℕ) → List ℕ → ℕ
block_place place b = cond (eqb (part_of b).number 1) (place (take (part_of b).length (drop (part_of b).start b))) 0

unfoldable pub reply_place : (List ℕ → ℕ) → List ℕ → ℕ
reply_place place reply =
    cond (eqb (stripped_of reply (replicate longest 0)).number 1) (block_place place (map seven reply)) (stripped_of reply (replicate longest 0)).place

-- the refusal that is answered has that place too
abbrev pub Placed : {A : Type 0} → ℕ → Result A Refusal → Type 0
Placed place outcome = IfErr outcome (λ refusal. refusal_place refusal ≡ place)

-- a buffer begins with the text and is kept past it; its number and its length
pub record Shows (q : Readout) (out : List ℕ) (r : Shown) (after : List ℕ) : Type 0 where
  pub number : r.number ≡ q.number
  pub long : r.length ≡ length q.text
  pub held : after ≡ holding out q.text
