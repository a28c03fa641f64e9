-- A line put in by three writes: its address with the bracket, its value, and the end. Assumes nothing.
use mathlib.Core.Path.{◌≡◌, refl, ap, ◌∙◌}
use mathlib.Core.List.{List, [], ◌∷◌, ◌++◌, append_assoc}
use Prim.Native.Nat.{ℕ, ◌+◌}
use native.Mathlib.Omega.{arith}
use lib.ListN.{length, length-append}
use Rattle.text.specs.Writing.{stored}
use Rattle.text.proofs.Writing.{and_then}
use Rattle.datasets.specs.Sets.{DataSet, data_set, lines_of, line_of}
use Rattle.datasets.proofs.Lengths.{lines-append}

pub one_line : (address value : List ℕ) (n : ℕ) (buf : List ℕ) (at : ℕ) (b1 : List ℕ) (p1 : ℕ) (b2 : List ℕ) (p2 : ℕ) (b3 : List ℕ)
    → length value ≡ n → p1 ≡ at + length (address ++ (40 ∷ [])) → b1 ≡ stored buf at (address ++ (40 ∷ []))
    → p2 ≡ p1 + n → b2 ≡ stored b1 p1 value
    → b3 ≡ stored b2 p2 (41 ∷ 13 ∷ 10 ∷ []) → b3 ≡ stored buf at (data_set address value)
unfolding data_set
one_line address value n buf at b1 p1 b2 p2 b3 long q1 e1 q2 e2 e3 =
    let opened = address ++ (40 ∷ []) in
    let ending : List ℕ = 41 ∷ 13 ∷ 10 ∷ [] in
    let two : b2 ≡ stored buf at (opened ++ value) = and_then buf at opened b1 p1 value b2 e1 q1 e2 in
    let place : p2 ≡ at + length (opened ++ value) = rw (length-append opened value) (omega arith) in
    and_then buf at (opened ++ value) b2 p2 ending b3 two place e3
    ∙ ap (stored buf at) (append_assoc opened value ending ∙ append_assoc address (40 ∷ []) (value ++ ending))

-- one text behind another, put in by two writes: the place after them, and what the buffer then holds
pub both : (one other buf : List ℕ) (at : ℕ) (b1 : List ℕ) (p1 : ℕ) (b2 : List ℕ) (p2 : ℕ)
    → p1 ≡ at + length one → b1 ≡ stored buf at one → p2 ≡ p1 + length other → b2 ≡ stored b1 p1 other
    → (p2 ≡ at + length (one ++ other)) × (b2 ≡ stored buf at (one ++ other))
both one other buf at b1 p1 b2 p2 q1 e1 q2 e2 = (omega (arith, length-append one other), and_then buf at one b1 p1 other b2 e1 q1 e2)

-- some lines put in from a place on, the place after them, and what the buffer then holds
pub record Lines (buf : List ℕ) (at : ℕ) (sets : List DataSet) (place : ℕ) (after : List ℕ) : Type 0 where
  pub next : place ≡ at + length (lines_of sets)
  pub held : after ≡ stored buf at (lines_of sets)

append-nil : (l : List ℕ) → l ++ [] ≡ l
append-nil [] = refl
append-nil (x ∷ l) = ap (λ (r : List ℕ). x ∷ r) (append-nil l)

pub single : (s : DataSet) (k : ℕ) (buf : List ℕ) (at place : ℕ) (after : List ℕ) → length (line_of s) ≡ k → place ≡ at + k
    → after ≡ stored buf at (line_of s) → Lines buf at (s ∷ []) place after
unfolding lines_of
single s k buf at place after long p e = record { next = rw (append-nil (line_of s)) (omega arith); held = rw (append-nil (line_of s)) e }

-- lines after lines
pub joined : (s t : List DataSet) (buf : List ℕ) (at place : ℕ) (mid : List ℕ) (next : ℕ) (after : List ℕ)
    → Lines buf at s place mid → Lines mid place t next after → Lines buf at (s ++ t) next after
joined s t buf at place mid next after a b =
    record {
      next = rw (lines-append s t, length-append (lines_of s) (lines_of t)) (omega (arith, a.next, b.next));
      held = rw (lines-append s t) (and_then buf at (lines_of s) mid place (lines_of t) after a.held a.next b.held);
    }
