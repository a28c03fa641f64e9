-- `values::writing::put_pointed` meets its contract: the digits are put in around the point, and then the unit. Assumes nothing.
use mathlib.Core.Path.{◌≡◌, ◌∙◌}
use mathlib.Core.List.{List, [], ◌∷◌}
use Prim.Native.Nat.{ℕ, ◌+◌, ◌-◌, ◌≤◌}
use native.Mathlib.Omega.{arith}
use lib.ListN.{length, take, drop, length-drop}
use lib.Seq.{length-take-le}
use Rattle.text.specs.Writing.{stored}
use Rattle.text.proofs.Writing.{and_then}
use Rattle.values.specs.Texts.{pointed}
use Rattle.values.proofs.writing.put_pointed.Goals as goal

-- what is before the point, the point, what is after it and the unit, one after the other
around : (first point : ℕ) (nine buf : List ℕ) (at : ℕ) (b1 : List ℕ) (p1 : ℕ) (b2 : List ℕ) (p2 : ℕ) (b3 : List ℕ) (p3 : ℕ) (b4 : List ℕ)
    → length nine ≡ 9 → first ≤ point → point ≤ 9
    → p1 ≡ at + length (take (point - first) (drop first nine)) → b1 ≡ stored buf at (take (point - first) (drop first nine))
    → p2 ≡ p1 + 1 → b2 ≡ stored b1 p1 (46 ∷ [])
    → p3 ≡ p2 + length (take (9 - point) (drop point nine)) → b3 ≡ stored b2 p2 (take (9 - point) (drop point nine))
    → b4 ≡ stored b3 p3 (42 ∷ 107 ∷ 87 ∷ 104 ∷ [])
    → (p3 + 4 ≡ at + (9 - first + 5)) × (b4 ≡ stored buf at (pointed first point nine))
unfolding pointed
around first point nine buf at b1 p1 b2 p2 b3 p3 b4 long low high q1 e1 q2 e2 q3 e3 e4 =
    let before : length (take (point - first) (drop first nine)) ≡ point - first = length-take-le (point - first) (drop first nine) (omega (arith, length-drop first nine, long)) in
    let after : length (take (9 - point) (drop point nine)) ≡ 9 - point = length-take-le (9 - point) (drop point nine) (omega (arith, length-drop point nine, long)) in
    let last = and_then b2 p2 (take (9 - point) (drop point nine)) b3 p3 (42 ∷ 107 ∷ 87 ∷ 104 ∷ []) b4 e3 q3 e4 in
    let dot = and_then b1 p1 (46 ∷ []) b2 p2 _ b4 e2 q2 last in
    (omega (arith, before, after), and_then buf at (take (point - first) (drop first nine)) b1 p1 _ b4 e1 q1 dot)

pub returns : goal.returns
returns c =
    let a = c.args in
    let first = c.put-a.ensures in
    let point = c.put-b.ensures in
    let rest = c.put-c.ensures in
    let unit = c.put.ensures in
    let done = around a.first a.point a.nine.now a.buf.now a.at _ _ _ _ _ _ _ c.requires.0.0 c.requires.0.1.0 c.requires.0.1.1
    first.next first.held point.next point.held rest.next rest.held unit.held in
    record { next = unit.next ∙ done.0; held = done.1 }
