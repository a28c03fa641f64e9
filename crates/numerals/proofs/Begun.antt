-- What programs' texts have in common: four pieces put in one after the other, and a text that a buffer begins with. Assumes nothing.
use mathlib.Core.Path.{◌≡◌, sym, ap, ◌∙◌}
use mathlib.Core.List.{List, ◌++◌}
use Rattle.std.proofs.Common.{append_assoc}
use Prim.Native.Nat.{ℕ, ◌+◌, ◌≤◌}
use native.Mathlib.Omega.{arith}
use lib.ListN.{length, take, drop, length-append}
use lib.Seq.{length-take-le, take-append_seam}
use Rattle.text.specs.Writing.{stored, holding}
use Rattle.text.proofs.Writing.{and_then, stored-holding}
use Rattle.numerals.proofs.Widths.{line-few}
use Rattle.numerals.specs.Numerals.{number_line, begins_with}

module _ (buf : List ℕ) (at : ℕ) (xs ys zs ws : List ℕ)
    (a : List ℕ) (second : ℕ) (b : List ℕ) (third : ℕ) (c : List ℕ) (fourth : ℕ) (d : List ℕ)
    (e1 : a ≡ stored buf at xs) (p1 : second ≡ at + length xs)
    (e2 : b ≡ stored a second ys) (p2 : third ≡ second + length ys)
    (e3 : c ≡ stored b third zs) (p3 : fourth ≡ third + length zs)
    (e4 : d ≡ stored c fourth ws) where
  pub four-put : d ≡ stored buf at (xs ++ (ys ++ (zs ++ ws)))
  four-put =
      and_then buf at xs a second (ys ++ (zs ++ ws)) d e1 p1
      (and_then a second ys b third (zs ++ ws) d e2 p2 (and_then b third zs c fourth ws d e3 p3 e4))

-- what a buffer begins with is within it
pub begun : (out shown : List ℕ) (size : ℕ) → size ≡ length shown → (after : List ℕ) → after ≡ holding out shown
    → (size ≤ length after) × (size ≡ length (take size after))
unfolding holding
begun out shown size e after h =
    let within : size ≤ length after = omega (arith, ap length h, length-append shown (drop (length shown) out)) in
    (within, sym (length-take-le size after within))

-- a line put at the front, with more behind it or not, is what a buffer begins with
module _ (out : List ℕ) (n m : ℕ) (more : List ℕ) (room : length (number_line n m ++ more) ≤ length out) where
  pub line-begins : (after : List ℕ) → after ≡ stored out 0 (number_line n m ++ more) → begins_with n m after
  unfolding holding
  line-begins after h =
      let line = number_line n m in
      let rest = drop (length (line ++ more)) out in
      ap (λ (l : List ℕ). take (length line) l) (h ∙ stored-holding out (line ++ more) room ∙ append_assoc line more rest) ∙ take-append_seam line (more ++ rest)

-- the same of the line alone
pub line-shown : (out : List ℕ) (n m : ℕ) → 42 ≤ length out → (after : List ℕ) → after ≡ stored out 0 (number_line n m) → begins_with n m after
unfolding holding
line-shown out n m room after h =
    let line = number_line n m in
    let fits : length line ≤ length out = omega (arith, line-few n m) in
    ap (λ (l : List ℕ). take (length line) l) (h ∙ stored-holding out line fits) ∙ take-append_seam line (drop (length line) out)
