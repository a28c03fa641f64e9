-- `cardlink::hand_over` meets its contract: number and length are those of the writer's answer. Assumes nothing.
use mathlib.Core.Path.{ap, ◌∙◌}
use Rattle.cardwriting.specs.Writing.{Written}
use Rattle.cardlink.proofs.hand_over.Goals as goal

pub returns-in-Ok : goal.returns-in-Ok
returns-in-Ok c =
    let e = c.in-Ok.ensures in
    (ap (λ (w : Written). w.number) e.0, e.1, ap (λ (w : Written). w.length) e.0)

pub returns-in-Err : goal.returns-in-Err
returns-in-Err c =
    let e = c.in-Err.ensures in
    (c.number.ensures ∙ ap (λ (w : Written). w.number) e.0, e.1, ap (λ (w : Written). w.length) e.0)
