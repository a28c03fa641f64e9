-- What one deed does to the registers: the same steps as in `history`, one at a time.
use Rattle.std.specs.Prelude.{List, [], ◌∷◌}
use Rattle.state.specs.declared.Registers.{Registers}
use Rattle.values.specs.Family.{counter_end, export_end}
use Rattle.state.specs.Setting.{with_clock, with_account, with_tables, with_counters, with_exported, with_row}
use Rattle.state.specs.Closing.{closing}
use Rattle.tariff.specs.Zones.{counted}
use Rattle.tariff.specs.Months.{second_later}
use Rattle.history.specs.Frames.{Write, clock, account, row}
use Rattle.history.specs.Deeds.{Deed, wrote, second, energy, energy_out, closed}
use Rattle.history.specs.Told.{zone_at}

unfoldable pub written : Write → Registers → Registers
written (clock c) g = with_clock g c
written (account a) g = with_account g a
written (row n r) g = with_tables g (with_row g.tables n r)

unfoldable pub done : Deed → Registers → Registers
done (wrote w) g = written w g
done second g = second_later g
done (energy units) g = with_counters g (counted (counter_end g.facts.decimals) g.counters (zone_at g.facts.edition g.tables g.clock) units)
done (energy_out units) g = with_exported g (counted (export_end g.facts.decimals) g.exported (zone_at g.facts.edition g.tables g.clock) units)
done closed g = closing g

-- the newest first
unfoldable pub done_all : List Deed → Registers → Registers
done_all [] g = g
done_all (d ∷ ds) g = done d (done_all ds g)
