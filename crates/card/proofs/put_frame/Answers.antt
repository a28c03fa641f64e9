-- `card::put_frame` meets its contract: three texts one after the other, then closed. Assumes nothing.
use mathlib.Core.List.{List, [], ◌∷◌}
use Prim.Native.Nat.{ℕ}
use native.Mathlib.Omega.{arith}
use Rattle.commands.proofs.Making.{three, frame-of-three}
use Rattle.card.proofs.put_frame.Goals as goal

pub returns : goal.returns
returns c =
    let a = c.args in
    let p = c.requires in
    let u : List ℕ = 41 ∷ [] in
    let k = three a.out.now a.start.now a.content.now u _ _ _ _ _ _ c.put-a.ensures.next c.put-a.ensures.held c.put-b.ensures.next c.put-b.ensures.held c.put-c.ensures.next c.put-c.ensures.held in
    (frame-of-three a.out.now a.start.now a.content.now u _ _ _ _ k p.0 (omega (arith, p.1)) c.seal.ensures.whole c.seal.ensures.held).held
