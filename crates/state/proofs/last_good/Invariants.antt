-- `state::last_good` meets its contract: what is gathered, with what is left, says it of the whole, of both kinds. Assumes nothing.
use Rattle.std.proofs.Common.{◌≡◌, ◌*◌, ◌&&◌, eqb, length, drop}
use Rattle.line.specs.Runs.{every}
use Rattle.text.specs.Classes.{between}
use Rattle.state.specs.Sizes.{first_rows, all_rows}
use Rattle.state.specs.Fours.{in_row}
use Rattle.state.proofs.last_good.Given as goal

abbrev pub invariant-loop-word : goal.invariant-loop-word
invariant-loop-word l =
    (length l.s ≡ all_rows) × ((in_row l.bad && every (between 49 52) (drop (l.word * 4) l.s)) ≡ every (between 49 52) (drop first_rows l.s)) × ((eqb l.bits 0 && every (between 0 0) (drop (l.word * 4) l.s)) ≡ every (between 0 0) (drop first_rows l.s))
