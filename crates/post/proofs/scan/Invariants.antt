-- `post::scan` meets its contract: what is right below the lines passed is right of the whole. Assumes nothing.
use Rattle.std.proofs.Common.{◌≡◌, ◌*◌, ◌/◌, ◌≤◌, length}
use Rattle.post.specs.Rest.{Passed}
use Rattle.post.proofs.scan.Given as goal

abbrev pub invariant-loop-l : goal.invariant-loop-l
invariant-loop-l l = (l.lines ≡ length l.text / 36) × (l.l ≤ l.lines) × (Passed l.tables l.text (36 * l.l) l.above)
