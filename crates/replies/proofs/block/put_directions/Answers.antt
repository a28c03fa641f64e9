-- `replies::block::put_directions` meets its contract: what came in, and where the family has it what went out behind it. Assumes nothing.
use mathlib.Core.Path.{sym, ◌∙◌}
use mathlib.Core.Bool.{true, false}
use native.Mathlib.Omega.{arith}
use Rattle.replies.specs.Block.{energy_sets}
use Rattle.replies.proofs.Sizes.{energies-most, both-put, came-put}
use Rattle.replies.proofs.block.put_directions.Goals as goal

pub put_energies-requires : goal.put_energies-requires
put_energies-requires c =
    let a = c.args in
    omega (arith, c.requires, c.put_energies-a.ensures.next, energies-most a.family false a.counters)

pub returns-then-is_eqm : goal.returns-then-is_eqm
returns-then-is_eqm c =
    let a = c.args in
    let came = c.put_energies-a.ensures in
    let went = c.put_energies.ensures in
    let both =
    both-put a.family (energy_sets a.family false a.counters) (energy_sets a.family true a.exported) a.buf.now a.at _ _ _ _
    (sym c.is_eqm.ensures ∙ c.if-is_eqm.true) (record { next = came.next; held = came.held }) (record { next = went.next; held = went.held }) in
    record { next = both.next; held = both.held }

pub returns : goal.returns
returns c =
    let a = c.args in
    let came = c.put_energies-a.ensures in
    let alone =
    came-put a.family (energy_sets a.family false a.counters) (energy_sets a.family true a.exported) a.buf.now a.at _ _
    (sym c.is_eqm.ensures ∙ c.if-is_eqm.false) (record { next = came.next; held = came.held }) in
    record { next = alone.next; held = alone.held }
