-- `state::words_held` meets its contract: what is gathered, with what is left, says it of the whole, of both. Assumes nothing.
use Rattle.std.proofs.Common.{◌≡◌, ◌+◌, ◌-◌, ◌*◌, ◌%◌, ◌&&◌, eqb, length, drop}
use Rattle.line.specs.Runs.{every}
use Rattle.text.specs.Classes.{between}
use Rattle.state.specs.Sizes.{held_places}
use Rattle.state.specs.Fours.{in_seven}
use Rattle.state.proofs.Fours.{behind_from}
use Rattle.state.proofs.words_held.Given as goal

abbrev pub invariant-loop-word : goal.invariant-loop-word
invariant-loop-word l =
    (length l.held ≡ held_places) × ((in_seven l.all && every (between 0 127) (drop (l.word * 4) l.held)) ≡ every (between 0 127) l.held) × ((eqb l.behind 0 && behind_from l.count (l.word * 4) l.held) ≡ every (between 0 0) (drop (l.count - l.count % 4 + 4) l.held))
