-- `meter::take` meets its contract: each way out is the case of the definition that its tests name. Assumes nothing.
use mathlib.Core.Path.{◌≡◌, refl, sym, ◌∙◌}
use mathlib.Core.Bool.{true}
use mathlib.Core.Logic.{◌⊎◌, inl, inr}
use Rattle.receiving.specs.declared.Hearing.{Hearing}
use Rattle.receiving.specs.declared.Hearing.TheVariants.{Line, Confirm, Frame, TooLong}
use Rattle.state.proofs.Limits.{limit-most}
use Rattle.receiving.proofs.Laws.{hold-room}
use native.Mathlib.Omega.{arith}
use Rattle.text.specs.Writing.{holding}
use Rattle.meter.specs.Character.{taken, heard}
use Rattle.meter.specs.Deeds.{acts}
use borrow.Author.Rules.{rules}
use Rattle.meter.proofs.take.Goals as goal

pub keep-requires : goal.keep-requires
keep-requires c =
    let held = hold-room _ _ _ _ (sym c.hear-h.ensures ∙ c.in-Hold.is) in
    omega (arith, held.below, limit-most c.args.m.mode)

-- each of the four is one that a meter acts on
acted_upon : (h : Hearing) → (h ≡ Line) ⊎ ((h ≡ Confirm) ⊎ ((h ≡ Frame) ⊎ (h ≡ TooLong))) → acts h ≡ true
unfolding acts
acted_upon h (inl e) = rw e refl
acted_upon h (inr (inl e)) = rw e refl
acted_upon h (inr (inr (inl e))) = rw e refl
acted_upon h (inr (inr (inr e))) = rw e refl

pub act_on-requires : goal.act_on-requires
act_on-requires c = (c.requires, acted_upon _ c.in-Line.is)

pub returns-in-Drop : goal.returns-in-Drop
unfolding taken heard holding
returns-in-Drop c = record { result = rw (← c.damaged-damaged.ensures, ← c.symbol_of-c.ensures, ← c.last_held.ensures, ← c.hear-h.ensures, c.in-Drop.is, c.quiet.ensures); held = rw (← c.damaged-damaged.ensures, ← c.symbol_of-c.ensures, ← c.last_held.ensures, ← c.hear-h.ensures, c.in-Drop.is) }

pub returns-in-Hold : goal.returns-in-Hold
unfolding taken heard holding
returns-in-Hold c =
    record { result = rw (← c.damaged-damaged.ensures, ← c.symbol_of-c.ensures, ← c.last_held.ensures, ← c.hear-h.ensures, c.in-Hold.is, c.quiet-in-Hold.ensures, c.with_receiver.ensures, c.keep.ensures); held = rw (← c.damaged-damaged.ensures, ← c.symbol_of-c.ensures, ← c.last_held.ensures, ← c.hear-h.ensures, c.in-Hold.is) }

pub returns-in-Restart : goal.returns-in-Restart
unfolding taken heard holding
returns-in-Restart c =
    record { result = rw (← c.damaged-damaged.ensures, ← c.symbol_of-c.ensures, ← c.last_held.ensures, ← c.hear-h.ensures, c.in-Restart.is, c.quiet-in-Restart.ensures, c.with_receiver-in-Restart.ensures, c.restart.ensures); held = rw (← c.damaged-damaged.ensures, ← c.symbol_of-c.ensures, ← c.last_held.ensures, ← c.hear-h.ensures, c.in-Restart.is) }

pub returns-in-Empty : goal.returns-in-Empty
unfolding taken heard holding
returns-in-Empty c =
    record { result = rw (← c.damaged-damaged.ensures, ← c.symbol_of-c.ensures, ← c.last_held.ensures, ← c.hear-h.ensures, c.in-Empty.is, c.quiet-in-Empty.ensures, c.with_receiver-in-Empty.ensures, c.empty_receiver.ensures); held = rw (← c.damaged-damaged.ensures, ← c.symbol_of-c.ensures, ← c.last_held.ensures, ← c.hear-h.ensures, c.in-Empty.is) }

pub returns-in-Line : goal.returns-in-Line
unfolding taken holding
returns-in-Line c =
    let said = c.act_on.ensures in
    record { result = rw (← c.damaged-damaged.ensures, ← c.symbol_of-c.ensures, ← c.last_held.ensures, ← c.hear-h.ensures) said.result; held = rw (← c.damaged-damaged.ensures, ← c.symbol_of-c.ensures, ← c.last_held.ensures, ← c.hear-h.ensures) said.held }
