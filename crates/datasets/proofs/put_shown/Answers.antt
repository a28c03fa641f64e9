-- `datasets::put_shown` meets its contract: the value and the end, put in one after the other. Assumes nothing.
use mathlib.Core.List.{[], ◌∷◌}
use native.Mathlib.Omega.{arith}
use Rattle.values.specs.Texts.{energy_text}
use Rattle.values.proofs.Families.{shown, energy-long}
use Rattle.datasets.proofs.Joined.{both}
use Rattle.datasets.proofs.put_shown.Goals as goal

pub put_counter-a-requires : goal.put_counter-a-requires
put_counter-a-requires c =
    omega (arith, (shown c.args.family).digits-most, c.requires)

pub put-requires : goal.put-requires
put-requires c =
    omega (arith, c.put_counter-a.ensures.next, (shown c.args.family).digits-most, c.requires)

pub returns : goal.returns
returns c =
    let ended = c.put.ensures in
    let a = c.args in
    let value = energy_text a.family a.n in
    let done = both value (41 ∷ 13 ∷ 10 ∷ []) a.buf.now a.at _ _ _ _ (rw (energy-long a.family a.n) c.put_counter-a.ensures.next) c.put_counter-a.ensures.held ended.next ended.held in
    record { next = done.0; held = done.1 }
