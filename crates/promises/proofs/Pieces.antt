-- A piece of a piece of what is held is a piece of what is held: the account and the row that a frame tells, and the password that it brings,
-- are where the meter takes them. Assumes nothing.
use mathlib.Core.Path.{◌≡◌, refl, sym, ap, ◌∙◌}
use mathlib.Core.Bool.{true}
use mathlib.Core.List.{List, [], ◌∷◌}
use Prim.Native.Nat.{ℕ, zero, suc, ◌+◌, ◌-◌, ◌≤◌}
use native.Mathlib.Nat.{sub-zero}
use native.Mathlib.Omega.{arith}
use borrow.Author.Tests.{eqb-true}
use lib.Dec.{eqb}
use lib.ListN.{length, take, drop, length-take, length-drop}
use lib.Seq.{length-take-le, take-take, drop-drop, take_all, take-nil}
use Rattle.line.specs.Runs.{every}
use Rattle.line.proofs.Runs.{and_left}
use Rattle.values.specs.Edition.{row_length}
use Rattle.values.specs.Registers.{is_account_character, good_account, good_row}
use Rattle.text.specs.Classes.{between}
use Rattle.deciding.specs.Shape.{content}
use Rattle.deciding.specs.Telling.{inner}

drop-take : (b c : ℕ) (l : List ℕ) → drop b (take c l) ≡ take (c - b) (drop b l)
drop-take zero c l = ap (λ (k : ℕ). take k l) (sym (sub-zero c))
drop-take (suc b) zero l = ap (λ (k : ℕ). take k (drop (suc b) l)) {x = 0} {y = 0 - suc b} (omega arith)
drop-take (suc b) (suc c) [] = sym (take-nil (suc c - suc b))
drop-take (suc b) (suc c) (x ∷ l) = drop-take b c l ∙ ap (λ (k : ℕ). take k (drop b l)) {x = c - b} {y = suc c - suc b} (omega arith)

within : (a b c : ℕ) (l : List ℕ) → a + b ≤ c → take a (drop b (take c l)) ≡ take a (drop b l)
within a b c l h = ap (take a) (drop-take b c l) ∙ take-take a (c - b) (drop b l) (omega arith)

-- through the data and the brackets
told-piece : (a b i j n : ℕ) (l : List ℕ) → a + b ≤ i → a + (2 + b) ≤ j → a + (4 + (2 + b)) ≤ n
    → take a (drop b (take i (drop 2 (take j (drop 4 (take n l)))))) ≡ take a (drop (4 + (2 + b)) l)
told-piece a b i j n l p q r =
    within a b i (drop 2 (take j (drop 4 (take n l)))) p
    ∙ ap (take a) (drop-drop b 2 (take j (drop 4 (take n l))))
    ∙ within a (2 + b) j (drop 4 (take n l)) q
    ∙ ap (take a) (drop-drop (2 + b) 4 (take n l))
    ∙ within a (4 + (2 + b)) n l r

-- all but k, from the j-th on
middle-long : (k j : ℕ) (l : List ℕ) → j ≤ k → length (take (length l - k) (drop j l)) ≡ length l - k
middle-long k j l h = length-take-le (length l - k) (drop j l) (omega (arith, length-drop j l))

-- how long the data and what stands in its brackets are
content-long : (h : List ℕ) → length (content h) ≡ length h - 5
unfolding content
content-long h = middle-long 5 4 h (omega arith)

inner-long : (d : List ℕ) → length (inner d) ≡ length d - 3
unfolding inner
inner-long d = middle-long 3 2 d (omega arith)

at_most : (m : ℕ) (s : List ℕ) (j : ℕ) → length (take m s) ≡ j → j ≤ m
at_most zero s j f = omega arith
at_most (suc m) [] j f = omega arith
at_most (suc m) (y ∷ s) j f = omega (arith, at_most m s (j - 1) (omega arith))

-- the bounds that a length in the brackets gives
pub record Bounds (n : ℕ) (l : List ℕ) (k : ℕ) : Type 0 where
  pub inside : length (inner (content (take n l))) ≡ k
  pub data-long : length (content (take n l)) ≡ k + 3
  pub held-long : length (take n l) ≡ k + 8
  pub count : k + 8 ≤ n

bounds : (n : ℕ) (l : List ℕ) (k : ℕ) → 1 ≤ k → length (inner (content (take n l))) ≡ k → Bounds n l k
bounds n l k pos e =
    let a = inner-long (content (take n l)) in
    let b = content-long (take n l) in
    let d : length (content (take n l)) ≡ k + 3 = omega arith in
    let c : length (take n l) ≡ k + 8 = omega arith in
    record { inside = e; data-long = d; held-long = c; count = at_most n l (k + 8) c }

cut-account : (n : ℕ) (l : List ℕ) → Bounds n l 10 → take 10 (inner (content (take n l))) ≡ take 10 (drop 6 l)
unfolding inner content
cut-account n l b =
    told-piece 10 0 (length (content (take n l)) - 3) (length (take n l) - 5) n l
    (omega (arith, b.data-long)) (omega (arith, b.held-long)) (omega (arith, b.count))

cut-row : (n : ℕ) (l : List ℕ) → Bounds n l 27 → take row_length (drop 3 (inner (content (take n l)))) ≡ take row_length (drop 9 l)
unfolding inner content
cut-row n l b =
    told-piece row_length 3 (length (content (take n l)) - 3) (length (take n l) - 5) n l
    (omega (arith, b.data-long)) (omega (arith, b.held-long)) (omega (arith, b.count))

same-account : (n : ℕ) (l : List ℕ) → length (inner (content (take n l))) ≡ 10 → inner (content (take n l)) ≡ take 10 (drop 6 l)
same-account n l e =
    let b = bounds n l 10 (omega arith) e in
    sym (take_all 10 (inner (content (take n l))) (omega arith)) ∙ cut-account n l b

same_row : (n : ℕ) (l : List ℕ) → length (drop 3 (inner (content (take n l)))) ≡ row_length → drop 3 (inner (content (take n l))) ≡ take row_length (drop 9 l)
same_row n l e =
    let x = inner (content (take n l)) in
    let k : length x ≡ 27 = omega (arith, length-drop 3 x) in
    let b = bounds n l 27 (omega arith) k in
    sym (take_all row_length (drop 3 x) (omega arith)) ∙ cut-row n l b

-- the account and the row that a frame tells stand at the 6th and the 9th place of what is held
pub account-told : (n : ℕ) (l : List ℕ) → good_account (inner (content (take n l))) ≡ true → inner (content (take n l)) ≡ take 10 (drop 6 l)
account-told n l g = same-account n l (account-length (inner (content (take n l))) g)
  where
    account-length : (x : List ℕ) → good_account x ≡ true → length x ≡ 10
    account-length x h = unfold good_account in (eqb-true (length x) 10 (and_left (eqb (length x) 10) (every is_account_character x) h))

pub row_told : (n : ℕ) (l : List ℕ) → good_row (drop 3 (inner (content (take n l)))) ≡ true → drop 3 (inner (content (take n l))) ≡ take row_length (drop 9 l)
row_told n l g = same_row n l (row-length (drop 3 (inner (content (take n l)))) g)
  where
    row-length : (x : List ℕ) → good_row x ≡ true → length x ≡ row_length
    row-length x h = unfold good_row in (eqb-true (length x) row_length (and_left (eqb (length x) row_length) (every (between 49 52) x) h))

pub account-is : (n : ℕ) (l : List ℕ) → good_account (inner (content (take n l))) ≡ true → good_account (take 10 (drop 6 l)) ≡ true
account-is n l g = (rw (account-told n l g) at g)

pub row_is : (n : ℕ) (l : List ℕ) → good_row (drop 3 (inner (content (take n l)))) ≡ true → good_row (take row_length (drop 9 l)) ≡ true
row_is n l g = (rw (row_told n l g) at g)

-- the password that a frame brings in its brackets stands at the 5th place of what is held
pub password-brought : (n : ℕ) (l : List ℕ) → length (content (take n l)) ≡ 10
    → take (length (content (take n l)) - 2) (drop 1 (content (take n l))) ≡ take 8 (drop 5 l)
unfolding content
password-brought n l e =
    let h = take n l in
    let j = length h - 5 in
    let long : j ≡ 10 = sym (content-long h) ∙ e in
    let eight : length (take j (drop 4 h)) - 2 ≡ 8 = omega (arith, e) in
    ap (λ (k : ℕ). take k (drop 1 (take j (drop 4 h)))) eight
    ∙ within 8 1 j (drop 4 h) (omega (arith, long))
    ∙ ap (take 8) (drop-drop 1 4 h)
    ∙ within 8 5 n l (omega (arith, at_most n l (length h) refl, long))
