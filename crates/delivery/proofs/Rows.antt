-- Rows put into the tables: each named table holds its row, and every other is as before.
-- A row is put at its own place, apart from every other table's. Assumes nothing.
use mathlib.Core.Path.{◌≡◌, refl, ap, ◌∙◌}
use mathlib.Core.Bool.{true}
use mathlib.Core.Logic.{◌⊎◌, inl, inr, ⊎_elim}
use mathlib.Core.List.Memᴰ
use mathlib.Core.List.{List, [], ◌∷◌, ◌++◌, append_assoc, Memᴰ}
use Prim.Native.Nat.{ℕ, ◌+◌, ◌-◌, ◌*◌, ◌≤◌, ◌<◌}
use native.Mathlib.Omega.{arith}
use lib.ListN.{length, take, drop, set}
use lib.Seq.{drop-set-lt, drop-set-add, take-set-le, length-take-le, take_at, drop_at}
use Rattle.text.specs.Writing.{stored}
use Rattle.text.proofs.Writing.{length-stored, stored_is}
use Rattle.state.specs.Sizes.{row_length, table_places}
use Rattle.replies.specs.Shown.{row_of}
use Rattle.post.specs.Grammar.{Entry, rising}
use Rattle.post.proofs.Lines.{row-length}
use Rattle.text.proofs.Beginnings.{le-or-lt}
use Rattle.post.proofs.Reading.{rising-number, rising-rest, rising-table, rising-row}
use Rattle.delivery.specs.Acknowledged.{rows_after}

-- what is put in before a place, and what is put in behind a part, leaves it
pub stored-before : (s : List ℕ) (at : ℕ) (xs : List ℕ) (b : ℕ) → at + length xs ≤ b → drop b (stored s at xs) ≡ drop b s
unfolding stored
stored-before s at [] b h = refl
stored-before s at (x ∷ xs) b h = stored-before (set s at x) (at + 1) xs b (omega arith) ∙ drop-set-lt b s at x (omega arith)

set-behind : (s : List ℕ) (at x b n : ℕ) → b + n ≤ at → take n (drop b (set s at x)) ≡ take n (drop b s)
set-behind s at x b n h =
    let e : at ≡ b + (at - b) = omega arith in
    ap (λ (k : ℕ). take n (drop b (set s k x))) e ∙ ap (take n) (drop-set-add b s (at - b) x) ∙ take-set-le n (drop b s) (at - b) x (omega arith)

stored-behind : (s : List ℕ) (at : ℕ) (xs : List ℕ) (b n : ℕ) → b + n ≤ at → take n (drop b (stored s at xs)) ≡ take n (drop b s)
unfolding stored
stored-behind s at [] b n h = refl
stored-behind s at (x ∷ xs) b n h = stored-behind (set s at x) (at + 1) xs b n (omega arith) ∙ set-behind s at x b n h

-- one row put in
pub row_here : (s : List ℕ) (n : ℕ) (row : List ℕ) → length row ≡ 24 → (n - 1) * 24 + 24 ≤ length s → row_of (stored s ((n - 1) * 24) row) n ≡ row
unfolding row_of
row_here s n row long room =
    let at = (n - 1) * 24 in
    ap (λ (l : List ℕ). take 24 (drop at l)) (stored_is s at row (omega arith) ∙ append_assoc (take at s) row (drop (at + length row) s))
    ∙ ap (take 24) (drop_at (take at s) (row ++ drop (at + length row) s) at (length-take-le at s (omega arith)))
    ∙ take_at row (drop (at + length row) s) 24 long

pub row_apart : (s : List ℕ) (n k : ℕ) (row : List ℕ) → length row ≡ 24 → 1 ≤ n → 1 ≤ k → (k ≡ n → ⊥) → row_of (stored s ((k - 1) * 24) row) n ≡ row_of s n
unfolding row_of
row_apart s n k row long low-n low-k other =
    ⊎_elim (λ h. stored-behind s ((k - 1) * 24) row ((n - 1) * 24) 24 (omega arith))
    (λ h. ap (take 24) (stored-before s ((k - 1) * 24) row ((n - 1) * 24) (omega arith))) (split (le-or-lt k n))
  where
    split : (k ≤ n) ⊎ (n < k) → (n < k) ⊎ (k < n)
    split (inl h) = ⊎_elim (λ g. absurd (other (omega arith))) (λ g. inr g) (le-or-lt n k)
    split (inr h) = inl h

above-all : (tables above : ℕ) (es : List Entry) → rising tables above es ≡ true → (e : Entry) → Memᴰ e es → above < e.number
above-all tables above [] g e i = absurd (Memᴰ.not-nil i)
above-all tables above (x ∷ es) g e i =
    let low = rising-number tables above x es g in
    ⊎_elim (λ q. omega (arith, ap (λ (y : Entry). y.number) q)) (λ t. omega (arith, above-all tables x.number es (rising-rest tables above x es g) e t)) (Memᴰ.cases_cons i)

-- a table that is not named is as before
pub others-kept : (tables : ℕ) (s : List ℕ) (above : ℕ) (es : List Entry) → rising tables above es ≡ true → (n : ℕ) → 1 ≤ n → ((e : Entry) → Memᴰ e es → e.number ≡ n → ⊥)
    → row_of (rows_after s es) n ≡ row_of s n
unfolding rows_after
others-kept tables s above [] g n low other = refl
others-kept tables s above (e ∷ es) g n low other =
    others-kept tables (stored s ((e.number - 1) * 24) e.row) e.number es (rising-rest tables above e es g) n low (λ x i. other x (Memᴰ.tail i))
    ∙ row_apart s n e.number e.row (row-length e.row (rising-row tables above e es g)) low (omega (arith, rising-number tables above e es g))
    (other e (Memᴰ.head refl))

-- a named table holds its row
pub named-held : (tables : ℕ) (s : List ℕ) (above : ℕ) (es : List Entry) → tables ≤ table_places → rising tables above es ≡ true → length s ≡ table_places * row_length → (e : Entry) → Memᴰ e es
    → row_of (rows_after s es) e.number ≡ e.row
unfolding rows_after
named-held tables s above [] few g long e i = absurd (Memᴰ.not-nil i)
named-held tables s above (x ∷ es) few g long e i =
    let rest = rising-rest tables above x es g in
    let t = stored s ((x.number - 1) * 24) x.row in
    let low = rising-number tables above x es g in
    let high = rising-table tables above x es g in
    let here : row_of (rows_after t es) x.number ≡ x.row =
    others-kept tables t x.number es rest x.number (omega arith) (λ y j q. omega (arith, above-all tables x.number es rest y j))
    ∙ row_here s x.number x.row (row-length x.row (rising-row tables above x es g)) (omega arith) in
    ⊎_elim (λ q. rw q here) (λ j. named-held tables t x.number es few rest (length-stored s ((x.number - 1) * 24) x.row ∙ long) e j) (Memᴰ.cases_cons i)
