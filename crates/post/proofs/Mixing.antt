-- The first characters of a text, and then those of a sample: what stands before a stray can be completed, whatever the columns are tested for.
-- Assumes nothing.
use Rattle.std.proofs.Common.{◌≡◌, ℕ, ◌-◌, ◌<◌, ◌≤◌, Bool, true, List, ◌++◌, length, get_or, take, drop, ap, ◌∙◌, ⊎_elim, arith, length-append, length-drop, length-take-le, get_or-drop, take_at, get_or-append-add}
use Rattle.text.proofs.Beginnings.{le-or-lt, same_at}

unfoldable pub mixed : ℕ → List ℕ → List ℕ → List ℕ
mixed k s sample = take k s ++ drop k sample

module _ (k : ℕ) (s sample : List ℕ) (in-text : k ≤ length s) where
  taken : length (take k s) ≡ k
  taken = length-take-le k s in-text

  pub length-mixed : (width : ℕ) → k ≤ width → length sample ≡ width → length (mixed k s sample) ≡ width
  unfolding mixed
  length-mixed width h long = omega (arith, length-append (take k s) (drop k sample), taken, length-drop k sample)

  pub same-mixed : take k (mixed k s sample) ≡ take k s
  unfolding mixed
  same-mixed = take_at (take k s) (drop k sample) k taken

  pub mixed-front : (j : ℕ) → j < k → get_or (mixed k s sample) j 0 ≡ get_or s j 0
  mixed-front = same_at k (mixed k s sample) s same-mixed

  pub mixed-back : (j : ℕ) → k ≤ j → get_or (mixed k s sample) j 0 ≡ get_or sample j 0
  unfolding mixed
  mixed-back j h =
      ap (λ (i : ℕ). get_or (take k s ++ drop k sample) i 0) (omega (arith, taken))
      ∙ get_or-append-add (take k s) (drop k sample) (j - k) 0
      ∙ get_or-drop k sample (j - k) 0
      ∙ ap (λ (i : ℕ). get_or sample i 0) (omega arith)

  -- it fits where the text's columns and the sample's do
  pub mixed-fits : (column : ℕ → ℕ → Bool) (width : ℕ) → ((j : ℕ) → j < k → column j (get_or s j 0) ≡ true) → ((j : ℕ) → j < width → column j (get_or sample j 0) ≡ true)
      → (j : ℕ) → j < width → column j (get_or (mixed k s sample) j 0) ≡ true
  mixed-fits column width before sampled j h =
      ⊎_elim (λ b. ap (column j) (mixed-back j b) ∙ sampled j h) (λ f. ap (column j) (mixed-front j f) ∙ before j f) (le-or-lt k j)
