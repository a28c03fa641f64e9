-- `whole::to_characters` meets its contract. The invariant: the bytes passed are characters, the others are as they were. Assumes nothing.
use Rattle.std.proofs.Common.{◌≡◌}
use Rattle.meter.specs.Character.{symbol}
use Rattle.line.proofs.Runs.{changed}
use Rattle.whole.proofs.to_characters.Given as goal

abbrev pub invariant-loop-b : goal.invariant-loop-b
invariant-loop-b l = l.s ≡ changed symbol l.b-index l.initial.s
