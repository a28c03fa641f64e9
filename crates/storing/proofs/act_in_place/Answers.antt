-- `storing::act_in_place` meets its contract: what `settling::act` says is to be stored can be written. Assumes nothing.
use Rattle.std.proofs.Common.{sym, subst}
use Rattle.meter.specs.declared.Acted.{Acted}
use Rattle.meter.specs.Life.{event_of}
use Rattle.meter.specs.Deeds.{Writable, standing_of}
use Rattle.meter.proofs.Done.{left_writable}
use Rattle.storing.proofs.act_in_place.Goals as goal

pub store-requires : goal.store-requires
store-requires c =
    let m = c.args.m.now in (
      c.requires.0,
      subst (λ (x : Acted). Writable x.writes) (sym c.act-a.ensures.0)
          (left_writable (standing_of m) m.receiver.held m.registers.clock (event_of c.args.kind c.args.value)),
    )
