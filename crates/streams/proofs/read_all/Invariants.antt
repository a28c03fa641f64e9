-- `streams::read_all` is safe and ends: what is kept lies within the buffer. Assumes nothing.
use Rattle.std.proofs.Common.{◌≤◌, length}
use Rattle.streams.proofs.read_all.Given as goal

abbrev pub invariant-loop : goal.invariant-loop
invariant-loop g l = l.kept ≤ length l.buf
