-- `meter::acting::account_after` meets its contract: each way out is the case of the definition that its tests name. Assumes nothing.
use Rattle.std.proofs.Common.{◌≡◌, ℕ, List, refl, arith, rules}
use Rattle.meter.proofs.Known.{piece-long}
use Rattle.meter.specs.declared.Writes.{Writes}
use Rattle.meter.specs.declared.Writes.TheVariants.{None, ClockSet, AccountSet, RowSet, Closed, MonthClosed}
use Rattle.meter.specs.Deeds.{account_after}
use Rattle.meter.proofs.acting.account_after.Goals as goal

-- no other write changes the account
others : (held account : List ℕ) (w : Writes) → (w ≡ AccountSet → ⊥) → account ≡ account_after held account w
unfolding account_after
others held account None n = refl
others held account (ClockSet c) n = refl
others held account AccountSet n = absurd (n refl)
others held account (RowSet t) n = refl
others held account Closed n = refl
others held account (MonthClosed c) n = refl

pub ten-requires : goal.ten-requires
ten-requires c =
    rw (c.first.ensures.result_value, c.rest.ensures.result_value) (piece-long c.args.held.now (search rules) 6 10 (omega arith))

pub returns-in-AccountSet : goal.returns-in-AccountSet
unfolding account_after
returns-in-AccountSet c =
    rw (c.in-AccountSet.is, c.ten.ensures, c.first.ensures.result_value, c.rest.ensures.result_value)

pub returns-in_default : goal.returns-in_default
returns-in_default c = others c.args.held.now c.args.account c.args.w c.in_default.not-AccountSet
