-- Lanes made by a function of two texts, place by place: their bound, and what `&` leaves of each. Assumes nothing.
use Rattle.std.proofs.Common.{◌≡◌, ℕ, ◌+◌, ◌*◌, ◌^◌, ◌<◌, Bool, true, false, ◌&&◌, eqb, ltb, List, [], ◌∷◌, map, length, sym, refl, ap, ◌∙◌, pow-suc, arith, lit<, ltb-true, eq-eqb, eqb-true}
use lib.Bits.{bit_and, and_block, and_le_l}
use Rattle.line.proofs.Runs.{and_left, and_right, and_both}
use Rattle.text.specs.Classes.{matching}
use Rattle.eights.specs.Lanes.{lanes}

-- two tests that pass together are one
pub same_test : (a b : Bool) → (a ≡ true → b ≡ true) → (b ≡ true → a ≡ true) → a ≡ b
same_test true b f g = sym (f refl)
same_test false true f g = g refl
same_test false false f g = refl

-- what passes one test passes another
pub matched-weaker : (f g : ℕ → ℕ → Bool) → ((c x : ℕ) → f c x ≡ true → g c x ≡ true) → (p s : List ℕ) → matching f p s ≡ true → matching g p s ≡ true
unfolding matching
matched-weaker f g w [] [] h = refl
matched-weaker f g w [] (x ∷ s) h = h
matched-weaker f g w (c ∷ p) [] h = h
matched-weaker f g w (c ∷ p) (x ∷ s) h =
    and_both (g c x) (matching g p s) (w c x (and_left (f c x) (matching f p s) h)) (matched-weaker f g w p s (and_right (f c x) (matching f p s) h))

-- tests that agree of what passes a third agree of whole texts that do
pub matched-same : (k f g : ℕ → ℕ → Bool) → ((c x : ℕ) → k c x ≡ true → f c x ≡ g c x) → (p s : List ℕ) → matching k p s ≡ true → matching f p s ≡ matching g p s
unfolding matching
matched-same k f g w [] [] h = refl
matched-same k f g w [] (x ∷ s) h = refl
matched-same k f g w (c ∷ p) [] h = refl
matched-same k f g w (c ∷ p) (x ∷ s) h =
    rw (w c x (and_left (k c x) (matching k p s) h), matched-same k f g w p s (and_right (k c x) (matching k p s) h))

-- two tests of every place are both of them of all
pub matched-both : (f g : ℕ → ℕ → Bool) (p s : List ℕ) → matching (λ c x. f c x && g c x) p s ≡ (matching f p s && matching g p s)
unfolding matching
matched-both f g [] [] = refl
matched-both f g [] (x ∷ s) = refl
matched-both f g (c ∷ p) [] = refl
matched-both f g (c ∷ p) (x ∷ s) = rw (matched-both f g p s) (swap (f c x) (g c x) (matching f p s) (matching g p s))
  where
    swap : (a b u v : Bool) → ((a && b) && (u && v)) ≡ ((a && u) && (b && v))
    swap true true u v = refl
    swap true false true v = refl
    swap true false false v = refl
    swap false b u v = refl

-- lanes of what a function makes of two texts
unfoldable pub lanes_by : (ℕ → ℕ → ℕ) → List ℕ → List ℕ → ℕ
lanes_by f [] [] = 0
lanes_by f [] (x ∷ s) = 0
lanes_by f (c ∷ p) [] = 0
lanes_by f (c ∷ p) (x ∷ s) = lanes_by f p s * 256 + f c x

-- each is a lane's
unfoldable pub within : (ℕ → ℕ → ℕ) → ℕ → ℕ → Bool
within f c x = ltb (f c x) 256

module _ (f : ℕ → ℕ → ℕ) where
  pub lanes-lt : (p s : List ℕ) → matching (within f) p s ≡ true → lanes_by f p s < 256 ^ length p
  unfolding lanes_by matching within
  lanes-lt [] [] h = lit< tt
  lanes-lt [] (x ∷ s) h = lit< tt
  lanes-lt (c ∷ p) [] h = absurd (let z : ◌≡◌ {A = ℕ} 0 1 = cc in omega arith)
  lanes-lt (c ∷ p) (x ∷ s) h =
      let own : f c x < 256 = ltb-true _ _ (and_left (ltb (f c x) 256) (matching (within f) p s) h) in
      let rest = lanes-lt p s (and_right (ltb (f c x) 256) (matching (within f) p s) h) in
      rw (pow-suc 256 (length p)) (omega arith)

-- numbers are the same where their lanes are
lane-same : (a b x y : ℕ) → x < 256 → y < 256 → eqb (a * 256 + x) (b * 256 + y) ≡ (eqb x y && eqb a b)
lane-same a b x y h k =
    same_test _ _ (λ e. let t : a * 256 + x ≡ b * 256 + y = eqb-true _ _ e in and_both (eqb x y) (eqb a b) (eq-eqb x y (omega arith)) (eq-eqb a b (omega arith)))
    (λ e. let l : x ≡ y = eqb-true x y (and_left (eqb x y) (eqb a b) e) in
    let r : a ≡ b = eqb-true a b (and_right (eqb x y) (eqb a b) e) in eq-eqb (a * 256 + x) (b * 256 + y) (omega arith))

-- the bits that are left of all lanes are those that are left of each
module _ (f : ℕ → ℕ → ℕ) (bits low : ℕ → ℕ) (eight : (c : ℕ) → bits c < 256) where
  unfoldable pub left : ℕ → ℕ → Bool
  left c x = eqb (bit_and (f c x) (bits c)) (low c)

  pub lanes-left : (p s : List ℕ) → matching (within f) p s ≡ true → matching (λ c x. ltb (low c) 256) p s ≡ true
      → eqb (bit_and (lanes_by f p s) (lanes (map bits p))) (lanes (map low p)) ≡ matching left p s
  unfolding lanes_by lanes matching within left
  lanes-left [] [] h k = refl
  lanes-left [] (x ∷ s) h k = absurd (let z : ◌≡◌ {A = ℕ} 0 1 = cc in omega arith)
  lanes-left (c ∷ p) [] h k = absurd (let z : ◌≡◌ {A = ℕ} 0 1 = cc in omega arith)
  lanes-left (c ∷ p) (x ∷ s) h k =
      let own : f c x < 256 = ltb-true _ _ (and_left (ltb (f c x) 256) (matching (within f) p s) h) in
      let small : low c < 256 = ltb-true _ _ (and_left (ltb (low c) 256) (matching (λ c x. ltb (low c) 256) p s) k) in
      let rest = lanes-left p s (and_right (ltb (f c x) 256) (matching (within f) p s) h) (and_right (ltb (low c) 256) (matching (λ c x. ltb (low c) 256) p s) k) in
      rw (and_block 8 (lanes_by f p s) (lanes (map bits p)) (f c x) (bits c) own (eight c))
      (lane-same _ _ _ _ (omega (arith, and_le_l (f c x) (bits c))) small ∙ ap (λ (b : Bool). eqb (bit_and (f c x) (bits c)) (low c) && b) rest)
