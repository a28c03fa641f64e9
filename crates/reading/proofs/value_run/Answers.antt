-- `reading::value_run` meets its contract: eights first, then one by one. Assumes nothing.
use mathlib.Core.Bool.{true}
use Prim.Native.Nat.{◌-◌, ◌≤◌}
use native.Mathlib.Omega.{arith}
use lib.ListN.{length, take, drop}
use Rattle.line.proofs.Runs.{every-weaker}
use Rattle.reading.proofs.Leading.{passed}
use Rattle.text.specs.Classes.{is_value}
use Rattle.reading.specs.Sets.{of_kind}
use Rattle.reading.proofs.value_run.Goals as goal

pub run-requires : goal.run-requires
unfolding of_kind
run-requires c =
    let s = c.args.s.now in let at = c.args.at in let p = c.pass_eights-from.ensures in let from = c.pass_eights-from.result in let there : from ≤ length s = omega (arith, p.within, c.min-n.ensures, c.requires) in let few : from - at ≤ 33 = omega (arith, p.within, c.min-n.ensures) in record { from = p.from; there = there; few = few; lead = passed (of_kind true) s at from 33 p.from there few (every-weaker is_value (of_kind true) (λ c h. h) (take (from - at) (drop at s)) p.all) }
