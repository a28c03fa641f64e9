-- `post::lines_rise` meets its contract: what is known of the lines gone through is kept in the flags. Assumes nothing.
use Rattle.std.proofs.Common.{◌≡◌, ◌+◌, ◌≤◌}
use Rattle.post.specs.Columns.{lowest, highest}
use Rattle.post.proofs.Rise.{Rose}
use Rattle.post.proofs.lines_rise.Given as goal

abbrev pub invariant-loop-l : goal.invariant-loop-l
invariant-loop-l l = (l.low ≡ lowest) × (l.high ≡ highest) × (l.floor ≡ lowest) × (l.ceiling ≡ highest) × (l.top ≡ 528 + l.tables) × (l.l ≤ l.lines) × (Rose l.tables l.text l.l l.above l.rise l.fits)
