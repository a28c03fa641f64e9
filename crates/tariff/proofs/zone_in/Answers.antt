-- `tariff::zone_in` meets its contract: the zone of its own rows, edition and clock. Assumes nothing.
use Rattle.tariff.specs.Zones.{zone_in}
use Rattle.tariff.proofs.zone_in.Goals as goal

pub returns : goal.returns
unfolding zone_in
returns c = c.zone_at.ensures
