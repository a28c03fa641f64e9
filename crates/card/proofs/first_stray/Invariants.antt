-- `card::first_stray` meets its contract: every column passed fits. Assumes nothing.
use Rattle.std.proofs.Common.{◌≡◌, ℕ, Bool, true, ◌<◌, get_or, take}
use Rattle.card.proofs.first_stray.Given as goal

abbrev pub invariant-loop-j : goal.invariant-loop-j
invariant-loop-j g l =
    (l.part ≡ take l.width l.s)
    × ((column : ℕ → ℕ → Bool) → ((j c : ℕ) (r : Bool) → goal.F-post g l.fits j c r → r ≡ column j c) → (i : ℕ) → i < l.j → column i (get_or l.part i 0) ≡ true)
