-- `values::writing::put_parted` meets its contract: what is put in is the text, digit by digit. Assumes nothing.
use Rattle.values.specs.Texts.{parted}
use mathlib.Core.Path.{◌≡◌, ap, ◌∙◌}
use mathlib.Core.List.{List, [], ◌∷◌, ◌++◌, append_assoc}
use Prim.Native.Nat.{ℕ, ◌+◌, ◌≤◌}
use native.Mathlib.Omega.{arith}
use lib.ListN.{length, take, drop, length-append, length-drop}
use lib.Seq.{take_all, length-take-le}
use Rattle.text.specs.Writing.{stored}
use Rattle.text.proofs.Writing.{and_then}
use Rattle.values.proofs.writing.put_parted.Goals as goal

-- three digits, the character and the other seven, put in one after the other
three-then-seven : (s buf : List ℕ) (at x : ℕ) (b1 : List ℕ) (p1 : ℕ) (b2 : List ℕ) (p2 : ℕ) (b3 : List ℕ) → length s ≡ 10
    → p1 ≡ at + length (take 3 s) → b1 ≡ stored buf at (take 3 s)
    → p2 ≡ p1 + 1 → b2 ≡ stored b1 p1 (x ∷ [])
    → b3 ≡ stored b2 p2 (take 7 (drop 3 s)) → b3 ≡ stored buf at (parted x s)
three-then-seven s buf at x b1 p1 b2 p2 b3 long q1 e1 q2 e2 e3 =
    let seven : length (drop 3 s) ≤ 7 = omega (arith, length-drop 3 s) in
    let two = and_then buf at (take 3 s) b1 p1 (x ∷ []) b2 e1 q1 e2 in
    let place : p2 ≡ at + length (take 3 s ++ (x ∷ [])) = rw (length-append (take 3 s) (x ∷ [])) (omega arith) in
    and_then buf at (take 3 s ++ (x ∷ [])) b2 p2 (take 7 (drop 3 s)) b3 two place e3
    ∙ ap (stored buf at) (rw (take_all 7 (drop 3 s) seven) (append_assoc (take 3 s) (x ∷ []) (drop 3 s)))

pub returns : goal.returns
returns c =
    let first = c.put-a.ensures in
    let second = c.put-b.ensures in
    let third = c.put.ensures in
    let s = c.args.s.now in
    let long : length s ≡ 10 = c.requires.0 in
    let three : length (take 3 s) ≡ 3 = length-take-le 3 s (omega arith) in
    let seven : length (take 7 (drop 3 s)) ≡ 7 = length-take-le 7 (drop 3 s) (omega (arith, length-drop 3 s)) in
    record { next = omega (arith, first.next, second.next, third.next); held = three-then-seven s c.args.buf.now c.args.at c.args.between _ _ _ _ _ long first.next first.held second.next second.held third.held }
