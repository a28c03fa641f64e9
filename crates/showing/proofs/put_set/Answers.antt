-- `showing::put_set` meets its contract: address, space, value and LF, put in one after the other. Assumes nothing.
use mathlib.Core.Path.{ap, ap₂, ◌∙◌}
use mathlib.Core.List.{List, [], ◌∷◌, ◌++◌}
use Prim.Native.Nat.{ℕ}
use native.Mathlib.Omega.{arith}
use lib.ListN.{length}
use Rattle.text.specs.Writing.{stored}
use Rattle.numerals.proofs.Begun.{four-put}
use Rattle.showing.specs.Shown.{set_line}
use Rattle.showing.proofs.Going.{address-lent, value_lent, address-long, value-long}
use Rattle.showing.proofs.put_set.Goals as goal

pub returns : goal.returns
unfolding set_line
returns c =
    let a = c.args in
    let s = a.sets.now in
    let inside = c.requires.0 in
    let address = c.put-space.ensures in
    let space = c.put-second.ensures in
    let value = c.put-end.ensures in
    let end = c.put.ensures in
    let lent = address-lent s a.at a.address a.value inside in
    let lent' = value_lent s a.at a.address a.value inside in
    let long = ap length lent ∙ address-long s a.at a.address a.value inside in
    let long' = ap length lent' ∙ value-long s a.at a.address a.value inside in
    record {
      next = omega (arith, address.next, space.next, value.next, end.next, long, long');
      held = four-put a.out.now a.to _ (32 ∷ []) _ (10 ∷ []) _ _ _ _ _ _ _ address.held address.next space.held space.next value.held value.next end.held
          ∙ ap₂ (λ (x y : List ℕ). stored a.out.now a.to (x ++ ((32 ∷ []) ++ (y ++ (10 ∷ []))))) lent lent';
    }
