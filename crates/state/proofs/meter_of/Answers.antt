-- `state::meter_of` meets its contract: its speed is that of its link, its receiver and its archive are the empty ones. Assumes nothing.
use Rattle.state.proofs.meter_of.Goals as goal

pub returns : goal.returns
returns c = rw (c.no_counters-none.ensures, c.rest_speed.ensures, c.empty_receiver.ensures, c.new_rows.ensures, c.empty_archive.ensures)
