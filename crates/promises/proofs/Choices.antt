-- A property of a choice, from that of its sides. Assumes nothing.
use mathlib.Core.Path.{◌≡◌, refl}
use mathlib.Core.Bool.{Bool, true, false, cond}

module _ {A : Type 0} (P : A → Type 0) where
  -- whichever way the test goes
  pub either : (b : Bool) {x y : A} → P x → P y → P (cond b x y)
  either true p q = p
  either false p q = q

  -- the first side may use that the test passed
  pub given : (b : Bool) {x y : A} → (b ≡ true → P x) → P y → P (cond b x y)
  given true p q = p refl
  given false p q = q

  -- both sides may use how the test went
  pub told : (b : Bool) {x y : A} → (b ≡ true → P x) → (b ≡ false → P y) → P (cond b x y)
  told true p q = p refl
  told false p q = q refl
