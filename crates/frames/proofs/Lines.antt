-- A line that is put together from its start, a serial and its end fills what it is put into; how long a line of the wired link is.
-- Assumes nothing.
use mathlib.Core.Path.{◌≡◌, ap, ◌∙◌}
use mathlib.Core.List.{List, [], ◌∷◌, ◌++◌, append_assoc}
use Prim.Native.Nat.{ℕ, ◌+◌}
use native.Mathlib.Omega.{arith}
use lib.ListN.{length, length-append}
use Rattle.text.specs.Writing.{stored}
use Rattle.text.proofs.Writing.{and_then, filled}
use Rattle.values.specs.Texts.{wired_text}
use Rattle.values.proofs.Rules.{wired-text-long}
use Rattle.frames.specs.Session.{wired_line}

pub line-put : (buf start middle end b1 b2 b3 : List ℕ) (p1 p2 : ℕ)
    → p1 ≡ 0 + length start → b1 ≡ stored buf 0 start
    → p2 ≡ p1 + length middle → b2 ≡ stored b1 p1 middle
    → b3 ≡ stored b2 p2 end → length (start ++ (middle ++ end)) ≡ length buf → b3 ≡ start ++ (middle ++ end)
line-put buf start middle end b1 b2 b3 p1 p2 q1 e1 q2 e2 e3 long =
    let place : p2 ≡ 0 + length (start ++ middle) = omega (arith, length-append start middle) in
    and_then buf 0 (start ++ middle) b2 p2 end b3 (and_then buf 0 start b1 p1 middle b2 e1 q1 e2) place e3
    ∙ ap (stored buf 0) (append_assoc start middle end) ∙ filled buf (start ++ (middle ++ end)) long

pub wired-line-long : (letter : ℕ) (serial : List ℕ) → length serial ≡ 10 → length (wired_line letter serial) ≡ 15
unfolding wired_line
wired-line-long letter serial n = omega (arith, wired-text-long serial n, length-append (wired_text serial) (13 ∷ 10 ∷ []))
