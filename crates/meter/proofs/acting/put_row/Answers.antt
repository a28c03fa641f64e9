-- `meter::acting::put_row` meets its contract: each way out is the case of the definition that its tests name. Assumes nothing.
use Rattle.std.proofs.Common.{◌≡◌, ℕ, List, refl, arith, subst}
use Rattle.values.specs.declared.TableNo.{TableNo}
use Rattle.meter.specs.declared.Writes.{Writes}
use Rattle.meter.specs.declared.Writes.TheVariants.{None, ClockSet, AccountSet, RowSet, Closed, MonthClosed}
use Rattle.meter.specs.Deeds.{tables_after, Writable}
use Rattle.meter.proofs.Known.{piece-long}
use Rattle.meter.proofs.acting.put_row.Goals as goal

-- no other write changes the tables
others : (held tables : List ℕ) (w : Writes) → ((t : TableNo) → w ≡ RowSet t → ⊥) → tables ≡ tables_after held tables w
unfolding tables_after
others held tables None n = refl
others held tables (ClockSet c) n = refl
others held tables AccountSet n = refl
others held tables (RowSet t) n = absurd (n t refl)
others held tables Closed n = refl
others held tables (MonthClosed c) n = refl

pub put-requires : goal.put-requires
unfolding Writable
put-requires c =
    let t = subst Writable c.in-RowSet.is c.requires.0 in
    rw (c.first.ensures.result_value, c.rest.ensures.result_value, c.row_start.ensures) (omega (arith, t, piece-long c.args.r.held c.requires.1 9 24 (omega arith)))

pub returns-in-RowSet : goal.returns-in-RowSet
unfolding tables_after
returns-in-RowSet c =
    rw (c.in-RowSet.is, ← c.row_start.ensures, ← c.rest.ensures.result_value, ← c.first.ensures.result_value) c.put.ensures.held

pub returns-in_default : goal.returns-in_default
returns-in_default c = others c.args.r.held c.args.rows.now c.args.w c.in_default.not-RowSet
