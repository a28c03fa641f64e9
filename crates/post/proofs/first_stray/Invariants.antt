-- `post::first_stray` meets its contract: every column passed fits. Assumes nothing.
use Rattle.std.proofs.Common.{◌≡◌, ℕ, ◌<◌, ◌≤◌, true, length}
use Rattle.post.specs.Columns.{lowest, highest, column_fits}
use Rattle.post.proofs.first_stray.Given as goal

abbrev pub invariant-loop-j : goal.invariant-loop-j
invariant-loop-j l = (l.low ≡ lowest) × (l.high ≡ highest) × (length l.s < 36) × (l.j ≤ length l.s) × ((i : ℕ) → i < l.j → column_fits l.s i ≡ true)
