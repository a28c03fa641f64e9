use mathlib.Core.Path.{refl}
use Rattle.line.specs.Characters.{seven}
use Rattle.line.proofs.character.Goals as goal

-- src/lib.rt:25:1
pub returns : goal.returns
unfolding seven
returns c = refl
