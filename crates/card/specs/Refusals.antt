-- Document 01's numbers of the answers of check and reader, and the length and the place that go with each.
use Rattle.std.specs.Prelude.{ℕ, Result, Ok, Err}
use Rattle.card.specs.declared.Refusal.{Refusal}
use Rattle.card.specs.declared.Refusal.TheVariants.{NoCard, NoRoom, NoEdition}

abbrev pub refusal_number : Refusal → ℕ
refusal_number (NoCard place) = 40
refusal_number NoRoom = 41
refusal_number NoEdition = 16

abbrev pub refusal_place : Refusal → ℕ
refusal_place (NoCard place) = place
refusal_place NoRoom = 0
refusal_place NoEdition = 0

-- 1 where nothing is refused
abbrev pub answer_number : {A : Type 0} → Result A Refusal → ℕ
answer_number (Ok done) = 1
answer_number (Err refusal) = refusal_number refusal

abbrev pub answer_place : {A : Type 0} → Result A Refusal → ℕ
answer_place (Ok done) = 0
answer_place (Err refusal) = refusal_place refusal

abbrev pub answer_length : Result ℕ Refusal → ℕ
answer_length (Ok length) = length
answer_length (Err refusal) = 0
