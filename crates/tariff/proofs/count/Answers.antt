-- `tariff::count` meets its contract: one counter grows and the total with it; beyond the four zones nothing does. Assumes nothing.
use borrow.Author.Tests.{lt-ltb, le-ltb}
use Rattle.state.proofs.Parts.{counter-small, total-small}
use Rattle.tariff.specs.Zones.{counted}
use Rattle.tariff.proofs.count.Goals as goal

pub grow-requires : goal.grow-requires
grow-requires c =
    let ends = c.requires.0 in
    let small = counter-small c.args.end c.args.c ends.0 c.requires.1.0 c.args.zone.0 in
    ((rw c.zone_place-i.ensures small, ends.1), c.requires.1.1)

pub grow-requires-then-i-lt4 : goal.grow-requires-then-i-lt4
grow-requires-then-i-lt4 c =
    let ends = c.requires.0 in
    ((total-small c.args.end c.args.c ends.0 c.requires.1.0, ends.1), c.requires.1.1)

pub returns-then-i-lt4 : goal.returns-then-i-lt4
unfolding counted
returns-then-i-lt4 c =
    let zone = c.zone_place-i in
    rw (
      c.grow-then-i-lt4.ensures,
      c.grow.ensures,
      ← zone.ensures,
      lt-ltb zone.result 4 c.if-i-lt4.true,
    )

pub returns-else-i-lt4 : goal.returns-else-i-lt4
unfolding counted
returns-else-i-lt4 c =
    let zone = c.zone_place-i in
    rw (← zone.ensures, le-ltb zone.result 4 c.if-i-lt4.false)
