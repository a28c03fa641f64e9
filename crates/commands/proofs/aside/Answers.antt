-- `commands::aside` meets its contract: what was made is what stands at the front of both. Assumes nothing.
use mathlib.Core.Path.{◌∙◌}
use native.Mathlib.Omega.{arith}
use Rattle.commands.proofs.Making.{front, frame-long, put-over}
use Rattle.commands.proofs.aside.Goals as goal

pub put-requires : goal.put-requires
put-requires c =
    rw (c.first.ensures.result_value, front _ _ _ _ c.frame-n.ensures) (omega (arith, frame-long c.args.start.now c.args.content.now c.requires.begun, c.requires))

pub returns : goal.returns
returns c =
    put-over _ _ _ _ _ _ c.frame-n.ensures (c.put.ensures.held ∙ (rw c.first.ensures.result_value))
    (omega (arith, frame-long c.args.start.now c.args.content.now c.requires.begun, c.requires))
