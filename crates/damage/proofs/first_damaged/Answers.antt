-- `damage::first_damaged` meets its contract. The invariant: the places passed, and where what is left is damaged, are the whole's. Assumes nothing.
use mathlib.Core.Path.{◌≡◌, sym, ◌∙◌}
use native.Mathlib.Omega.{arith}
use lib.ListN.{length}
use Rattle.damage.proofs.First.{first-here, first_next, first-none}
use Rattle.damage.proofs.first_damaged.Goals as goal

pub loop-at-init : goal.loop-at-init
loop-at-init c = omega arith

pub returns-then-damaged : goal.returns-then-damaged
returns-then-damaged c = first-here c.args.s.now c.loop-at.at (omega arith) c.loop-at.invariant (sym c.damaged.ensures ∙ c.if-damaged.true)

pub loop-at-preserved : goal.loop-at-preserved
loop-at-preserved c = first_next c.args.s.now c.loop-at.at (omega arith) c.loop-at.invariant (sym c.damaged.ensures ∙ c.if-damaged.false)

pub returns : goal.returns
returns c =
    let end : length c.args.s.now ≡ c.loop-at.at = omega arith in
    end ∙ first-none c.args.s.now c.loop-at.at (omega arith) c.loop-at.invariant
