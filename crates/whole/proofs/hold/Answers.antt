-- `whole::hold` meets its contract: each way out is the case of the definition that its tests name. Assumes nothing.
use Rattle.std.proofs.Common.{◌≡◌, ◌+◌, ◌≤◌, ℕ, false, eqb, arith, ne_eqb, le-leb}
use Rattle.std.proofs.lemmas.Bool.{lt-leb}
use Rattle.whole.specs.Gathering.{held_next}
use Rattle.whole.proofs.Gathering.{held-some}
use Rattle.whole.proofs.hold.Goals as goal

-- some are held
some : (n : ℕ) → 1 ≤ n → eqb n 0 ≡ false
some n h = ne_eqb n 0 (λ e. omega (arith, h, e))

pub returns-then-is_control : goal.returns-then-is_control
unfolding held_next
returns-then-is_control c = rw (some _ c.requires, ← c.is_control.ensures, c.if-is_control.true)

pub returns-then-is_control-2 : goal.returns-then-is_control-2
unfolding held_next
returns-then-is_control-2 c = rw (some _ c.requires, ← c.is_control.ensures, c.if-is_control.false, ← c.is_control-2.ensures, c.if-is_control-2.true)

pub returns-then-held : goal.returns-then-held
unfolding held_next
returns-then-held c =
    rw (some _ c.requires, ← c.is_control.ensures, c.if-is_control.false, ← c.is_control-2.ensures, c.if-is_control-2.false, le-leb _ _ c.if-held.true)

pub returns : goal.returns
unfolding held_next
returns c =
    rw (some _ c.requires, ← c.is_control.ensures, c.if-is_control.false, ← c.is_control-2.ensures, c.if-is_control-2.false, lt-leb _ _ c.if-held.false)
    (held-some (c.args.held + 1) (omega arith))
