-- `meter::acting::registers_after` meets its contract: one register after the other. Assumes nothing.
use borrow.Author.Rules.{rules}
use Rattle.meter.proofs.acting.registers_after.Goals as goal

pub returns : goal.returns
returns c =
    rw (c.with_tables.ensures, c.with_clock.ensures, c.with_account.ensures, c.with_archive-next.ensures, c.archive_after.ensures, c.rows_after-rows.ensures)
