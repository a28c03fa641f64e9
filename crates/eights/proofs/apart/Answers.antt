-- `eights::apart` meets its contract: the bytes of the number, the lowest first. Assumes nothing.
use Rattle.std.proofs.Common.{◌∙◌, ap, div-one}
use Rattle.eights.specs.Lanes.{unlaned}
use Rattle.eights.proofs.Windows.{low-first}
use Rattle.eights.proofs.apart.Goals as goal

pub returns : goal.returns
returns c = c.to_le_bytes.ensures ∙ low-first 0 8 c.args.w ∙ ap (unlaned 8) (div-one c.args.w)
