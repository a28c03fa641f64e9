-- `eights::eight` meets its contract: the bytes from the place on, the lowest first, are its lanes. Assumes nothing.
use Rattle.std.proofs.Common.{arith}
use Rattle.eights.specs.Lanes.{lanes}
use Rattle.eights.proofs.Windows.{all-bytes, eight-joined}
use Rattle.eights.proofs.eight.Goals as goal

pub returns : goal.returns
unfolding lanes
returns c =
    let s = c.args.s.now in (
      eight-joined s c.args.at _ c.requires (omega (arith, c.from_le_bytes.ensures)),
      all-bytes s (λ i. omega (arith, c.type_inv.s i)),
    )
