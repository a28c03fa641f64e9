-- The numbers of document 01 for what is not shown, and the place that goes with them.
use Rattle.std.specs.Prelude.{ℕ}
use Rattle.blocks.specs.Refusals.{number_of, place_of}
use Rattle.showing.specs.declared.Refusal.{Refusal}
use Rattle.showing.specs.declared.Refusal.TheVariants.{Block, Malformed, Missing}

abbrev pub refusal_number : Refusal → ℕ
refusal_number (Block refusal) = number_of refusal
refusal_number (Malformed place) = 25
refusal_number Missing = 27

abbrev pub refusal_place : Refusal → ℕ
refusal_place (Block refusal) = place_of refusal
refusal_place (Malformed place) = place
refusal_place Missing = 0
