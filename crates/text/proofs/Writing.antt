-- Writes that follow one another are one write, a write keeps the length, and the reader's form of a write. Assumes nothing.
use mathlib.Core.Path.{◌≡◌, refl, sym, ap, ◌∙◌}
use mathlib.Core.Bool.{Bool, true}
use mathlib.Core.List.{List, [], ◌∷◌, ◌++◌, append-nil}
use Prim.Native.Nat.{ℕ, ◌+◌, ◌<◌, ◌≤◌}
use native.Mathlib.Nat.{add-zero, zero-add}
use native.Mathlib.Omega.{arith}
use native.Mathlib.Numerals.{add-one}
use lib.ListN.{length, get_or, take, drop, set, length-set, drop_of_length-le}
use lib.Seq.{take-suc, length-take-le, sets, sets-eq}
use Rattle.line.specs.Runs.{every}
use Rattle.line.proofs.Runs.{and_left, and_right, every_set}
use Rattle.text.specs.Writing.{stored, holding}

pub length-stored : (buf : List ℕ) (at : ℕ) (xs : List ℕ) → length (stored buf at xs) ≡ length buf
unfolding stored
length-stored buf at [] = refl
length-stored buf at (x ∷ xs) = length-stored (set buf at x) (at + 1) xs ∙ length-set buf at x

-- what is said of every byte stays said, where it is said of those written
pub every-stored : (p : ℕ → Bool) (buf : List ℕ) (at : ℕ) (xs : List ℕ) → every p buf ≡ true → every p xs ≡ true → every p (stored buf at xs) ≡ true
unfolding every stored
every-stored p buf at [] h k = h
every-stored p buf at (x ∷ xs) h k =
    every-stored p (set buf at x) (at + 1) xs (every_set p buf at x h (and_left (p x) (every p xs) k)) (and_right (p x) (every p xs) k)

-- writes that follow one another are one write
pub stored-append : (buf : List ℕ) (at : ℕ) (xs ys : List ℕ) → stored (stored buf at xs) (at + length xs) ys ≡ stored buf at (xs ++ ys)
unfolding stored
stored-append buf at [] ys = ap (λ (k : ℕ). stored buf k ys) (add-zero at)
stored-append buf at (x ∷ xs) ys =
    ap (λ (k : ℕ). stored (stored (set buf at x) (at + 1) xs) k ys) (omega arith) ∙ stored-append (set buf at x) (at + 1) xs ys

stored_one : (buf : List ℕ) (at x : ℕ) → set buf at x ≡ stored buf at (x ∷ [])
unfolding stored
stored_one buf at x = refl

-- one more character
pub stored_next : (buf : List ℕ) (at : ℕ) (s : List ℕ) (i : ℕ) → i < length s
    → set (stored buf at (take i s)) (at + i) (get_or s i 0) ≡ stored buf at (take (i + 1) s)
stored_next buf at s i h =
    let n : length (take i s) ≡ i = length-take-le i s (omega arith) in
    rw (add-one i, take-suc s i 0 h)
    (ap (λ (k : ℕ). set (stored buf at (take i s)) (at + k) (get_or s i 0)) (sym n)
    ∙ stored_one (stored buf at (take i s)) (at + length (take i s)) (get_or s i 0)
    ∙ stored-append buf at (take i s) (get_or s i 0 ∷ []))

-- the buffer, as a reader sees it
as-sets : (buf : List ℕ) (at : ℕ) (xs : List ℕ) → stored buf at xs ≡ sets buf at xs
unfolding stored
as-sets buf at [] = refl
as-sets buf at (x ∷ xs) = as-sets (set buf at x) (at + 1) xs ∙ ap (λ (k : ℕ). sets (set buf at x) k xs) (add-one at)

pub stored_is : (buf : List ℕ) (at : ℕ) (xs : List ℕ) → at + length xs ≤ length buf → stored buf at xs ≡ take at buf ++ xs ++ drop (at + length xs) buf
stored_is buf at xs h = as-sets buf at xs ∙ sets-eq xs buf at h

-- a message put in from the front on
pub stored-holding : (buf message : List ℕ) → length message ≤ length buf → stored buf 0 message ≡ holding buf message
unfolding holding
stored-holding buf message h = stored_is buf 0 message (omega arith) ∙ ap (λ (k : ℕ). message ++ drop k buf) (zero-add (length message))

-- one write after another, as a caller has it: what the first left, the place that it gave, what the second left
pub and_then : (buf : List ℕ) (at : ℕ) (xs mid : List ℕ) (place : ℕ) (ys after : List ℕ)
    → mid ≡ stored buf at xs → place ≡ at + length xs → after ≡ stored mid place ys → after ≡ stored buf at (xs ++ ys)
and_then buf at xs mid place ys after e p f = rw (f, e, p) (stored-append buf at xs ys)

-- a text that fills what it is put into
pub filled : (buf m : List ℕ) → length m ≡ length buf → stored buf 0 m ≡ m
unfolding holding
filled buf m e =
    let fits : length m ≤ length buf = omega arith in
    let all : length buf ≤ length m = omega arith in
    stored-holding buf m fits ∙ (rw (drop_of_length-le buf all) (append-nil m))
