-- `state::rows_stray` meets its contract: what is gathered, with what is left, says it of the whole. Assumes nothing.
use Rattle.std.proofs.Common.{◌≡◌, ◌*◌, ◌&&◌, length, take, drop}
use Rattle.line.specs.Runs.{every}
use Rattle.text.specs.Classes.{between}
use Rattle.state.specs.Sizes.{first_rows, all_rows}
use Rattle.state.specs.Fours.{in_row}
use Rattle.state.proofs.rows_stray.Given as goal

abbrev pub invariant-loop-word : goal.invariant-loop-word
invariant-loop-word l = (length l.s ≡ all_rows) × ((in_row l.bad && every (between 49 52) (drop (l.word * 4) (take first_rows l.s))) ≡ every (between 49 52) (take first_rows l.s))
