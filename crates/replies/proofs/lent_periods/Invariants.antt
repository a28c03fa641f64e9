-- `replies::lent_periods` meets its contract: so far the lines of the first i periods are put in. Assumes nothing.
use Rattle.std.proofs.Common.{◌≡◌, ◌+◌, ◌*◌, ◌≤◌, length, take}
use Rattle.datasets.proofs.Joined.{Lines}
use Rattle.replies.specs.Periods.{archive_sets}
use Rattle.replies.proofs.lent_periods.Given as goal

abbrev pub invariant-loop-i : goal.invariant-loop-i
invariant-loop-i l =
    (l.place ≤ l.at + l.i * 226) × (length l.buf ≡ length l.initial.buf) × Lines l.initial.buf l.at (archive_sets l.family 1 (take l.i l.a.periods)) l.place l.buf
