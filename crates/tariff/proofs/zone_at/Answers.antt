-- `tariff::zone_at` meets its contract: the place of the hour in the day's row, and the digit there. Assumes nothing.
use Rattle.tariff.proofs.zone_at.Goals as goal

pub returns : goal.returns
returns c =
    rw (c.saturating_sub.ensures, c.at.ensures, c.row_start.ensures, c.table_for.ensures)
