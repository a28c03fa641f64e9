-- What a loop that goes over a run once keeps: what is done so far and what is left. One law a turn, one at the end.
-- Assumes nothing.
use mathlib.Core.Path.{◌≡◌, refl, sym, ap, ◌∙◌}
use mathlib.Core.Bool.{Bool, true, false, cond, ◌&&◌, and-true}
use mathlib.Core.List.{List, [], ◌∷◌, ◌++◌, append-nil, map}
use Prim.Native.Nat.{ℕ, zero, suc, ◌+◌, ◌<◌, ◌≤◌}
use mathlib.Core.Logic.{⊎_elim}
use native.Mathlib.Nat.{le_of_suc-le-suc, not-suc-le-zero, eq-or-lt_of_le}
use native.Mathlib.Numerals.{add-one}
use native.Mathlib.Omega.{arith}
use lib.ListN.{length, get_or, take, drop, set, drop_of_length-le}
use lib.Seq.{take_all, drop-cons}
use Rattle.line.specs.Runs.{every}

-- both parts of a test that passed
pub and_left : (a b : Bool) → (a && b) ≡ true → a ≡ true
and_left true b e = refl
and_left false b e = e

pub and_right : (a b : Bool) → (a && b) ≡ true → b ≡ true
and_right true b e = e
and_right false b e = absurd (let z : ◌≡◌ {A = ℕ} 0 1 = cc in omega arith)

pub and_both : (a b : Bool) → a ≡ true → b ≡ true → (a && b) ≡ true
and_both a b p q = rw (p, q)

pub and_assoc : (a b c : Bool) → ((a && b) && c) ≡ (a && (b && c))
and_assoc true b c = refl
and_assoc false b c = refl

-- the first i elements changed by f, the others as they were
unfoldable pub changed : (ℕ → ℕ) → ℕ → List ℕ → List ℕ
changed f i s = map f (take i s) ++ drop i s

pub changed-none : (f : ℕ → ℕ) (s : List ℕ) → s ≡ changed f 0 s
unfolding changed
changed-none f s = refl

turn : (f : ℕ → ℕ) (i : ℕ) (s : List ℕ) → i < length s → set (map f (take i s) ++ drop i s) i (f (get_or s i 0)) ≡ map f (take (suc i) s) ++ drop (suc i) s
turn f zero [] h = absurd (not-suc-le-zero h)
turn f zero (x ∷ s) h = refl
turn f (suc i) [] h = absurd (not-suc-le-zero h)
turn f (suc i) (x ∷ s) h = ap (λ (l : List ℕ). f x ∷ l) (turn f i s (le_of_suc-le-suc h))

pub changed-more : (f : ℕ → ℕ) (i : ℕ) (s : List ℕ) → i < length s → set (changed f i s) i (f (get_or s i 0)) ≡ changed f (i + 1) s
unfolding changed
changed-more f i s h = rw add-one (turn f i s h)

-- the element that a turn reads has not been changed yet
pub changed-next : (f : ℕ → ℕ) (i : ℕ) (s : List ℕ) → i < length s → get_or (changed f i s) i 0 ≡ get_or s i 0
unfolding changed
changed-next f zero s h = refl
changed-next f (suc i) [] h = refl
changed-next f (suc i) (x ∷ s) h = changed-next f i s (le_of_suc-le-suc h)

pub changed-all : (f : ℕ → ℕ) (i : ℕ) (s : List ℕ) → length s ≤ i → changed f i s ≡ map f s
unfolding changed
changed-all f i s h = rw (drop_of_length-le, take_all i s) (append-nil (map f s))

-- what is left, one element at a time
pub left-next : (i : ℕ) (s : List ℕ) → i < length s → drop i s ≡ get_or s i 0 ∷ drop (i + 1) s
left-next i s h = rw add-one (drop-cons s i 0 h)

-- a flag that every byte passed so far, with what is left, says it of the whole
module _ (p : ℕ → Bool) (s : List ℕ) (i : ℕ) (ok whole : Bool) where
  pub every-turn : i < length s → (ok && every p (drop i s)) ≡ whole → ((ok && p (get_or s i 0)) && every p (drop (i + 1) s)) ≡ whole
  unfolding every
  every-turn h e = and_assoc ok (p (get_or s i 0)) (every p (drop (i + 1) s)) ∙ (rw (left-next i s h) at e)

  pub every-end : length s ≤ i → (ok && every p (drop i s)) ≡ whole → ok ≡ whole
  unfolding every
  every-end h e = sym (and-true ok) ∙ (rw (drop_of_length-le s h) at e)

pub every_append : (p : ℕ → Bool) (s t : List ℕ) → every p s ≡ true → every p t ≡ true → every p (s ++ t) ≡ true
unfolding every
every_append p [] t hs ht = ht
every_append p (b ∷ s) t hs ht = rw (and_left (p b) (every p s) hs) (every_append p s t (and_right (p b) (every p s) hs) ht)

-- of every byte of a run: of a part of it, of a weaker test, of one of them, and with one put in
pub every_take : (p : ℕ → Bool) (n : ℕ) (s : List ℕ) → every p s ≡ true → every p (take n s) ≡ true
unfolding every
every_take p zero s h = refl
every_take p (suc n) [] h = refl
every_take p (suc n) (b ∷ s) h = rw (and_left (p b) (every p s) h) (every_take p n s (and_right (p b) (every p s) h))

pub every_drop : (p : ℕ → Bool) (n : ℕ) (s : List ℕ) → every p s ≡ true → every p (drop n s) ≡ true
unfolding every
every_drop p zero s h = h
every_drop p (suc n) [] h = refl
every_drop p (suc n) (b ∷ s) h = every_drop p n s (and_right (p b) (every p s) h)

pub every-weaker : (p q : ℕ → Bool) → ((b : ℕ) → p b ≡ true → q b ≡ true) → (s : List ℕ) → every p s ≡ true → every q s ≡ true
unfolding every
every-weaker p q w [] h = refl
every-weaker p q w (b ∷ s) h =
    and_both (q b) (every q s) (w b (and_left (p b) (every p s) h)) (every-weaker p q w s (and_right (p b) (every p s) h))

pub every-at : (p : ℕ → Bool) (s : List ℕ) → every p s ≡ true → (i : ℕ) → i < length s → p (get_or s i 0) ≡ true
unfolding every
every-at p [] e i h = absurd (omega arith)
every-at p (b ∷ s) e zero h = and_left (p b) (every p s) e
every-at p (b ∷ s) e (suc i) h = every-at p s (and_right (p b) (every p s) e) i (le_of_suc-le-suc h)

pub every_set : (p : ℕ → Bool) (s : List ℕ) (i x : ℕ) → every p s ≡ true → p x ≡ true → every p (set s i x) ≡ true
unfolding every
every_set p [] i x h k = refl
every_set p (b ∷ s) zero x h k = and_both (p x) (every p s) k (and_right (p b) (every p s) h)
every_set p (b ∷ s) (suc i) x h k = and_both (p b) _ (and_left (p b) (every p s) h) (every_set p s i x (and_right (p b) (every p s) h) k)

-- a choice that shows what only its first side shows was made for it
pub chosen : {A : Type 0} (shows : A → Bool) (b : Bool) (x y : A) → shows y ≡ false → shows (cond b x y) ≡ true → b ≡ true
chosen shows true x y e h = refl
chosen shows false x y e h = sym e ∙ h

-- a test that is computed at every number below n says it of each
abbrev pub all_below : ℕ → (ℕ → Bool) → Bool
all_below zero p = true
all_below (suc n) p = p n && all_below n p

pub below_all : (n : ℕ) (p : ℕ → Bool) → all_below n p ≡ true → (m : ℕ) → m < n → p m ≡ true
below_all zero p e m h = absurd (omega arith)
below_all (suc n) p e m h =
    ⊎_elim (λ k. ap p {x = m} {y = n} (omega arith) ∙ and_left (p n) (all_below n p) e)
    (λ k. below_all n p (and_right (p n) (all_below n p) e) m (omega arith)) (eq-or-lt_of_le h)
