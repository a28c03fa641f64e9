-- Document 01's numbers of the check's answer, and the place that goes with each.
use Rattle.std.specs.Prelude.{ℕ, Result, Ok, Err}
use Rattle.post.specs.declared.Refusal.{Refusal}
use Rattle.post.specs.declared.Refusal.TheVariants.{NoPost, NoEdition}

abbrev pub refusal_number : Refusal → ℕ
refusal_number (NoPost place) = 20
refusal_number NoEdition = 16

abbrev pub refusal_place : Refusal → ℕ
refusal_place (NoPost place) = place
refusal_place NoEdition = 0

-- 1 where nothing is refused
abbrev pub answer_number : Result (Unit {0}) Refusal → ℕ
answer_number (Ok done) = 1
answer_number (Err refusal) = refusal_number refusal

abbrev pub answer_place : Result (Unit {0}) Refusal → ℕ
answer_place (Ok done) = 0
answer_place (Err refusal) = refusal_place refusal
