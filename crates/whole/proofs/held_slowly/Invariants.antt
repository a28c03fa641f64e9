-- `whole::held_slowly` meets its contract: what is held so far, with what is left, gives what the whole does. Assumes nothing.
use Rattle.std.proofs.Common.{◌≡◌, ◌≤◌, drop}
use Rattle.whole.specs.Gathering.{held_after, held_over}
use Rattle.whole.proofs.held_slowly.Given as goal

abbrev pub invariant-loop-b : goal.invariant-loop-b
invariant-loop-b l = (1 ≤ l.held) × (held_after l.held l.before (drop l.b-index l.rest) ≡ held_over l.run)
