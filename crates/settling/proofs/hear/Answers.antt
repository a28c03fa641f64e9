-- `settling::hear` meets its contract: each way out is the case of the definition that its tests name. Assumes nothing.
use Rattle.std.proofs.Common.{◌≡◌, ◌⊎◌, inl, inr, ℕ, Bool, sym, ◌∙◌, arith}
use Rattle.state.proofs.Limits.{limit-most}
use Rattle.receiving.proofs.Laws.{hold-room}
use Rattle.receiving.specs.declared.Hearing.{Hearing}
use Rattle.receiving.specs.declared.Hearing.TheVariants.{Line, Confirm, Frame, TooLong}
use Rattle.settling.specs.declared.Seen.{Seen}
use Rattle.settling.specs.Settling.{ends, heard_by, heard_as}
use Rattle.settling.proofs.hear.Goals as goal

pub keep-requires : goal.keep-requires
keep-requires c =
    let held = hold-room _ _ _ _ (sym c.hear-h.ensures ∙ c.in-Hold.is) in
    omega (arith, held.below, limit-most c.args.s.mode)

pub returns-in-Drop : goal.returns-in-Drop
unfolding heard_by heard_as
returns-in-Drop c =
    rw (← c.damaged-damaged.ensures, ← c.symbol_of-c.ensures, ← c.last_in.ensures, ← c.hear-h.ensures, c.in-Drop.is, c.heard.ensures, c.kept_in.ensures)

pub returns-in-Hold : goal.returns-in-Hold
unfolding heard_by
returns-in-Hold c =
    rw (← c.damaged-damaged.ensures, ← c.symbol_of-c.ensures, ← c.last_in.ensures, ← c.hear-h.ensures, c.in-Hold.is, c.heard-in-Hold.ensures) c.keep.ensures

pub returns-in-Restart : goal.returns-in-Restart
unfolding heard_by heard_as
returns-in-Restart c =
    rw (← c.damaged-damaged.ensures, ← c.symbol_of-c.ensures, ← c.last_in.ensures, ← c.hear-h.ensures, c.in-Restart.is, c.heard-in-Restart.ensures, c.anew.ensures)

pub returns-in-Empty : goal.returns-in-Empty
unfolding heard_by heard_as
returns-in-Empty c =
    rw (← c.damaged-damaged.ensures, ← c.symbol_of-c.ensures, ← c.last_in.ensures, ← c.hear-h.ensures, c.in-Empty.is, c.heard-in-Empty.ensures, c.anew-in-Empty.ensures)

-- what ends a line, a confirmation or a frame, or is one too many, is left to the meter
left : (s : Seen) (c : ℕ) (damaged : Bool) (h : Hearing) → (h ≡ Line) ⊎ ((h ≡ Confirm) ⊎ ((h ≡ Frame) ⊎ (h ≡ TooLong))) → ends s ≡ heard_as s c damaged h
unfolding heard_as
left s c damaged h (inl e) = rw e
left s c damaged h (inr (inl e)) = rw e
left s c damaged h (inr (inr (inl e))) = rw e
left s c damaged h (inr (inr (inr e))) = rw e

pub returns-in-Line : goal.returns-in-Line
unfolding heard_by
returns-in-Line c = rw (← c.symbol_of-c.ensures, ← c.last_in.ensures, ← c.hear-h.ensures) (left _ _ _ _ c.in-Line.is)
