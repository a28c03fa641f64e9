-- `post::all_set` meets its contract: if the flag is still set, so is every one passed. Assumes nothing.
use Rattle.std.proofs.Common.{◌≡◌, ℕ, ◌<◌, true, false, get_or}
use Rattle.post.proofs.all_set.Given as goal

abbrev pub invariant-loop-fit : goal.invariant-loop-fit
invariant-loop-fit l = l.all ≡ true → (i : ℕ) → i < l.fit-index → get_or l.fits i false ≡ true
