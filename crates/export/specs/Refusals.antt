-- Document 01's numbers of the export's answer, and the length and the place that go with each.
use Rattle.std.specs.Prelude.{ℕ, Result, Ok, Err}
use Rattle.post.specs.declared.Refusal as post
use Rattle.post.specs.declared.Refusal.TheVariants as check
use Rattle.export.specs.declared.Refusal.{Refusal}
use Rattle.export.specs.declared.Refusal.TheVariants.{NoPost, NoRoom, NoEdition}

-- what the check of a post refuses, the export does
abbrev pub from_post : post.Refusal → Refusal
from_post (check.NoPost place) = NoPost place
from_post check.NoEdition = NoEdition

abbrev pub refusal_number : Refusal → ℕ
refusal_number (NoPost place) = 20
refusal_number NoRoom = 21
refusal_number NoEdition = 16

abbrev pub refusal_place : Refusal → ℕ
refusal_place (NoPost place) = place
refusal_place NoRoom = 0
refusal_place NoEdition = 0

-- 1 where nothing is refused
abbrev pub answer_number : {A : Type 0} → Result A Refusal → ℕ
answer_number (Ok done) = 1
answer_number (Err refusal) = refusal_number refusal

abbrev pub answer_place : {A : Type 0} → Result A Refusal → ℕ
answer_place (Ok done) = 0
answer_place (Err refusal) = refusal_place refusal

abbrev pub answer_length : Result ℕ Refusal → ℕ
answer_length (Ok length) = length
answer_length (Err refusal) = 0
