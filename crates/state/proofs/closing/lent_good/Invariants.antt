-- `state::closing::lent_good` meets its contract: the first places are as they have to be, and what is left of them says it of all. Assumes nothing.
use Rattle.std.proofs.Common.{◌≡◌, length, drop}
use Rattle.state.specs.Sizes.{period_places}
use Rattle.state.specs.WellFormed.{archive_good}
use Rattle.state.proofs.Places.{places_good}
use Rattle.state.proofs.closing.lent_good.Given as goal

abbrev pub invariant-loop-i : goal.invariant-loop-i
invariant-loop-i l =
    (length l.a.periods ≡ period_places) × (places_good l.family l.a.count l.i (drop l.i l.a.periods) ≡ archive_good l.family l.a)

abbrev pub invariant-loop-i-2 : goal.invariant-loop-i-2
invariant-loop-i-2 l =
    (length l.a.periods ≡ period_places) × (places_good l.family l.a.count l.i (drop l.i l.a.periods) ≡ archive_good l.family l.a)
