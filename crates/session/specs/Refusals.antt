-- Why no session starts or takes a reply, and how one ended, as numbers: document 01's, and 31, which is ours.
use Rattle.std.specs.Prelude.{ℕ}
use Rattle.session.specs.declared.Refusal.{Refusal}
use Rattle.session.specs.declared.Refusal.TheVariants.{Field, NoEdition, NoFamily, Short, NoPost, NoReads, ManyReads, NoPassword, NoSession}
use Rattle.session.specs.declared.Fact.{Fact}
use Rattle.session.specs.declared.Fact.TheVariants.{Done, Nak, Wrong, Silent}

abbrev pub number_of : Refusal → ℕ
number_of Field = 9
number_of NoEdition = 16
number_of NoFamily = 18
number_of Short = 19
number_of (NoPost place) = 20
number_of NoReads = 28
number_of ManyReads = 29
number_of NoPassword = 30
number_of NoSession = 31

-- where a text is no post
abbrev pub place_of : Refusal → ℕ
place_of Field = 0
place_of NoEdition = 0
place_of NoFamily = 0
place_of Short = 0
place_of (NoPost place) = place
place_of NoReads = 0
place_of ManyReads = 0
place_of NoPassword = 0
place_of NoSession = 0

abbrev pub fact_number : Fact → ℕ
fact_number Done = 1
fact_number Nak = 2
fact_number Wrong = 3
fact_number Silent = 4
