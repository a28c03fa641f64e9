-- `mercuryshow::put_line` meets its contract: the name, the quantity and LF, put in one after the other. Assumes nothing.
use native.Mathlib.Omega.{arith}
use mathlib.Core.List.{[], ◌∷◌, ◌++◌}
use Rattle.text.proofs.Writing.{and_then}
use Rattle.mercuryshow.specs.Shown.{quantity_text, quantity_line}
use Rattle.mercuryshow.proofs.Sizes.{quantity-few, line-long}
use Rattle.mercuryshow.proofs.put_line.Goals as goal

pub put-requires : goal.put-requires
put-requires c =
    omega (arith, quantity-few c.args.q, c.put-first.ensures.next, c.put_quantity-end.ensures.next, c.requires.0)

pub returns : goal.returns
unfolding quantity_line
returns c =
    let a = c.args in
    let first = c.put-first.ensures in
    let second = c.put_quantity-end.ensures in
    let third = c.put.ensures in
    record {
      next = omega (arith, line-long a.name.now a.q, first.next, second.next, third.next);
      held = and_then a.out.now a.at a.name.now _ _ (quantity_text a.q ++ (10 ∷ [])) _ first.held first.next
          (and_then _ _ (quantity_text a.q) _ _ (10 ∷ []) _ second.held second.next third.held);
    }
