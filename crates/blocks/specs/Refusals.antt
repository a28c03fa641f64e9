-- The numbers of document 01 for a reply without a part, and the place that goes with one of them.
use Rattle.std.specs.Prelude.{ℕ}
use Rattle.blocks.specs.declared.Refusal.{Refusal}
use Rattle.blocks.specs.declared.Refusal.TheVariants.{NoBlock, WrongBcc, Damaged, Short}

abbrev pub number_of : Refusal → ℕ
number_of NoBlock = 22
number_of WrongBcc = 23
number_of (Damaged place) = 24
number_of Short = 26

-- the first damaged byte's ([2]), else 0
abbrev pub place_of : Refusal → ℕ
place_of NoBlock = 0
place_of WrongBcc = 0
place_of (Damaged place) = place
place_of Short = 0
