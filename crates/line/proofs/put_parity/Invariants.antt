-- `line::put_parity` meets its contract. The invariant: the bytes passed carry parity, the others are as they were.
-- Assumes nothing.
use mathlib.Core.Path.{◌≡◌}
use Rattle.line.specs.Characters.{sent}
use Rattle.line.proofs.Runs.{changed}
use Rattle.line.proofs.put_parity.Given as goal

abbrev pub invariant-loop-b : goal.invariant-loop-b
invariant-loop-b l = l.b-items ≡ changed sent l.b-index l.initial.b-items
