-- What the tests for the last line, and for its first character, say. Assumes nothing.
use Rattle.std.proofs.Common.{◌≡◌, ℕ, ◌<◌, true, false, ◌&&◌, eqb, ltb, List, length, get_or, arith, ltb-true, lt-ltb, eq-eqb, eqb-true}
use Rattle.line.proofs.Runs.{and_left, and_right}
use Rattle.text.specs.Classes.{same_text}
use Rattle.text.proofs.Matching.{same-is, same_self}
use Rattle.post.specs.Grammar.{last_line}
use Rattle.post.specs.Columns.{begins_last, is_last}

module _ (above : ℕ) (s : List ℕ) where
  pub begins-above : begins_last above s ≡ true → 0 < above
  unfolding begins_last
  begins-above e = ltb-true 0 above (and_left (ltb 0 above) (ltb 0 (length s) && eqb (get_or s 0 0) 33) e)

  pub begins-one : begins_last above s ≡ true → begins_last 1 s ≡ true
  unfolding begins_last
  begins-one e = and_right (ltb 0 above) (ltb 0 (length s) && eqb (get_or s 0 0) 33) e

  pub begins-first : begins_last above s ≡ true → get_or s 0 0 ≡ 33
  unfolding begins_last
  begins-first e = eqb-true (get_or s 0 0) 33 (and_right (ltb 0 (length s)) (eqb (get_or s 0 0) 33) (begins-one e))

  pub not-begun : begins_last above s ≡ false → 0 < above → 0 < length s → get_or s 0 0 ≡ 33 → ⊥
  unfolding begins_last
  not-begun e h k f =
      let t : begins_last above s ≡ true = rw (lt-ltb 0 above h, lt-ltb 0 (length s) k, eq-eqb (get_or s 0 0) 33 f) in
      (let z : ◌≡◌ {A = ℕ} 0 1 = cc in omega arith)

  pub last-is : is_last above s ≡ true → (0 < above) × (s ≡ last_line)
  unfolding is_last
  last-is e =
      (ltb-true 0 above (and_left (ltb 0 above) (same_text s last_line) e), same-is s last_line (and_right (ltb 0 above) (same_text s last_line) e))

  pub not_last : is_last above s ≡ false → 0 < above → s ≡ last_line → ⊥
  unfolding is_last
  not_last e h l =
      let t : is_last above s ≡ true = rw (lt-ltb 0 above h, l, same_self last_line) in
      (let z : ◌≡◌ {A = ℕ} 0 1 = cc in omega arith)
