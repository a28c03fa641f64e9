-- Two letters and a mode, told apart as the definitions do. Assumes nothing.
use Rattle.std.proofs.Common.{◌≡◌, ℕ, ◌≤◌, Bool, true, false, ◌&&◌, ◌||◌, eqb, leb, refl, arith, eqb-true, eq-eqb, leb-true}
use Rattle.std.proofs.lemmas.Bool.{eqb-false}

-- not these two letters
pub unlike : (a b x y : ℕ) → (a ≡ x → b ≡ y → ⊥) → (eqb a x && eqb b y) ≡ false
unlike a b x y n = go (eqb a x) refl (eqb b y) refl
  where
    go : (p : Bool) → eqb a x ≡ p → (q : Bool) → eqb b y ≡ q → p && q ≡ false
    go true e true f = absurd (n (eqb-true a x e) (eqb-true b y f))
    go true e false f = refl
    go false e q f = refl

-- outside 2 to 4
pub outside : (mode : ℕ) → (2 ≤ mode → mode ≤ 4 → ⊥) → (leb 2 mode && leb mode 4) ≡ false
outside mode n = go (leb 2 mode) refl (leb mode 4) refl
  where
    go : (p : Bool) → leb 2 mode ≡ p → (q : Bool) → leb mode 4 ≡ q → p && q ≡ false
    go true e true f = absurd (n (leb-true 2 mode e) (leb-true mode 4 f))
    go true e false f = refl
    go false e q f = refl

-- 3 or 4
pub read_modes : (mode : ℕ) → 3 ≤ mode → mode ≤ 4 → (eqb mode 3 || eqb mode 4) ≡ true
read_modes mode l h = go (eqb mode 3) refl
  where
    go : (p : Bool) → eqb mode 3 ≡ p → (p || eqb mode 4) ≡ true
    go true e = refl
    go false e = eq-eqb mode 4 (omega (arith, l, h, eqb-false mode 3 e))

pub other_modes : (mode : ℕ) → (3 ≤ mode → mode ≤ 4 → ⊥) → (eqb mode 3 || eqb mode 4) ≡ false
other_modes mode n = go (eqb mode 3) refl (eqb mode 4) refl
  where
    go : (p : Bool) → eqb mode 3 ≡ p → (q : Bool) → eqb mode 4 ≡ q → (p || q) ≡ false
    go true e q f = absurd (let m = eqb-true mode 3 e in n (omega (arith, m)) (omega (arith, m)))
    go false e true f = absurd (let m = eqb-true mode 4 f in n (omega (arith, m)) (omega (arith, m)))
    go false e false f = refl
