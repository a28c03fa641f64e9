-- One byte more: what it says, and since when. Assumes nothing.
use mathlib.Core.Path.{◌≡◌, refl, ap, ap₂, ◌∙◌}
use mathlib.Core.Bool.{Bool, true, false, cond, ◌&&◌}
use mathlib.Core.List.{List, [], ◌∷◌, ◌++◌, map}
use Prim.Native.Nat.{ℕ}
use lib.Dec.{eqb}
use Rattle.line.specs.Characters.{seven, undamaged_at, undamaged_all}
use Rattle.line.specs.Runs.{every}
use Rattle.text.specs.Classes.{same_text, matching}
use Rattle.text.proofs.Matching.{same-snoc}
use Rattle.history.specs.Saying.{carries, says, or_else, since}

pub map_snoc : (f : ℕ → ℕ) (s : List ℕ) (b : ℕ) → map f (s ++ (b ∷ [])) ≡ map f s ++ (f b ∷ [])
map_snoc f [] b = refl
map_snoc f (x ∷ s) b = ap (λ (l : List ℕ). f x ∷ l) (map_snoc f s b)

pub undamaged-snoc : (s : List ℕ) (b : ℕ) → undamaged_all (s ++ (b ∷ [])) ≡ (undamaged_all s && undamaged_at b)
unfolding undamaged_all every
undamaged-snoc [] b = one (undamaged_at b)
  where
    one : (p : Bool) → (p && true) ≡ p
    one true = refl
    one false = refl
undamaged-snoc (x ∷ s) b = both (undamaged_at x) _ _ _ (undamaged-snoc s b)
  where
    both : (p a u v : Bool) → a ≡ (u && v) → (p && a) ≡ ((p && u) && v)
    both true a u v e = e
    both false a u v e = refl

-- a text and one character more
pub says-snoc : (bytes : List ℕ) (b : ℕ) (text : List ℕ) (c : ℕ) → says (bytes ++ (b ∷ [])) (text ++ (c ∷ [])) ≡ (says bytes text && carries c b)
unfolding says carries
says-snoc bytes b text c =
    ap₂ ◌&&◌ (undamaged-snoc bytes b) (ap (λ (l : List ℕ). same_text l (text ++ (c ∷ []))) (map_snoc seven bytes b) ∙ same-snoc (map seven bytes) text (seven b) c)
    ∙ across (undamaged_all bytes) (undamaged_at b) (same_text (map seven bytes) text) (eqb (seven b) c)
  where
    across : (p q r s : Bool) → ((p && q) && (r && s)) ≡ ((p && r) && (q && s))
    across false q r s = refl
    across true false false s = refl
    across true false true s = refl
    across true true r s = refl

-- nothing says nothing but the empty text
pub says_none : (text : List ℕ) (c : ℕ) → says [] (text ++ (c ∷ [])) ≡ false
unfolding says undamaged_all every same_text matching
says_none [] c = refl
says_none (x ∷ text) c = refl

-- some bytes, or none
unfoldable pub more : List ℕ → ℕ → List ℕ
more [] b = []
more (x ∷ xs) b = x ∷ (xs ++ (b ∷ []))

pub since-snoc : (c : ℕ) (said : List ℕ) (b : ℕ) → since c (said ++ (b ∷ [])) ≡ cond (carries c b) (b ∷ []) (more (since c said) b)
unfolding since or_else more
since-snoc c [] b = refl
since-snoc c (x ∷ said) b = rw (since-snoc c said b) (go (carries c b) (since c said) (carries c x))
  where
    go : (p : Bool) (l : List ℕ) (q : Bool)
        → or_else (cond p (b ∷ []) (more l b)) (cond q (x ∷ (said ++ (b ∷ []))) []) ≡ cond p (b ∷ []) (more (or_else l (cond q (x ∷ said) [])) b)
    go true l q = refl
    go false [] true = refl
    go false [] false = refl
    go false (y ∷ l) q = refl
