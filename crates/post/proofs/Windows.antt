-- Flags for 16 columns take in a line by three windows, at 0, 16 and 20, which hold all its 36 columns. Assumes nothing.
use Rattle.std.proofs.Common.{◌≡◌, ℕ, ◌+◌, ◌-◌, ◌<◌, Bool, true, false, ◌&&◌, List, length, get_or, set, sym, refl, ap, ◌∙◌, ap₂, ⊎_elim, arith, length-set, get_or-set_other, get_or-set_same}
use Rattle.line.proofs.Runs.{and_left, and_right}
use Rattle.post.specs.Columns.{column_fits, three, TookLine}
use Rattle.text.proofs.Beginnings.{le-or-lt}

-- no flag yet, and one more
pub took-none : (s : List ℕ) (before : List Bool) → TookLine s before before 0
took-none s before = record { long = refl; taken = λ i h. absurd (omega arith); others = λ i h. refl }

three-is : (s : List ℕ) (n : ℕ) (a b d : Bool) → a ≡ column_fits s n → b ≡ column_fits s (16 + n) → d ≡ column_fits s (20 + n) → ((a && b) && d) ≡ three s n
unfolding three
three-is s n a b d p q r = rw (p, q, r)

pub took_more : (s : List ℕ) (before after : List Bool) (n : ℕ) (a b d : Bool) → n < length after → TookLine s before after n
    → a ≡ column_fits s n → b ≡ column_fits s (16 + n) → d ≡ column_fits s (20 + n)
    → TookLine s before (set after n (get_or after n false && ((a && b) && d))) (n + 1)
took_more s before after n a b d h t p q r =
    record {
      long = length-set after n v ∙ t.long;
      taken =
          λ i k.
          ⊎_elim
          (λ e.
          let same : i ≡ n = omega arith in
          ap (λ (x : ℕ). get_or (set after n v) x false) same
          ∙ get_or-set_same after n v false h
          ∙ ap₂ ◌&&◌ (t.others n (omega arith)) (three-is s n a b d p q r)
          ∙ ap (λ (x : ℕ). get_or before x false && three s x) (sym same))
          (λ e. get_or-set_other after n i v false (λ q. omega arith) ∙ t.taken i e) (le-or-lt n i);
      others = λ i k. get_or-set_other after n i v false (λ q. omega arith) ∙ t.others i (omega arith);
    }
  where
    v : Bool
    v = get_or after n false && ((a && b) && d)

-- all 36 columns of a line fit where each of 16 columns does in each window
pub in_window : (s : List ℕ) → ((j : ℕ) → j < 16 → three s j ≡ true) → (j : ℕ) → j < 36 → column_fits s j ≡ true
unfolding three
in_window s h j k =
    ⊎_elim
    (λ a.
    ⊎_elim
    (λ b. ap (column_fits s) (omega arith) ∙ and_right (column_fits s (j - 20) && column_fits s (16 + (j - 20))) (column_fits s (20 + (j - 20))) (h (j - 20) (omega arith)))
    (λ b.
    ap (column_fits s) (omega arith)
    ∙ and_right (column_fits s (j - 16)) (column_fits s (16 + (j - 16))) (and_left (column_fits s (j - 16) && column_fits s (16 + (j - 16))) (column_fits s (20 + (j - 16))) (h (j - 16) (omega arith))))
    (le-or-lt 32 j))
    (λ a. and_left (column_fits s j) (column_fits s (16 + j)) (and_left (column_fits s j && column_fits s (16 + j)) (column_fits s (20 + j)) (h j a))) (le-or-lt 16 j)
