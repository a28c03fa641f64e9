-- What is held over a run, a byte at a time, and of a run that has no control character inside. Assumes nothing.
use mathlib.Core.Path.{◌≡◌, refl, sym, ap, ◌∙◌}
use mathlib.Core.Bool.{Bool, true, false, cond}
use mathlib.Core.List.{List, [], ◌∷◌}
use Prim.Native.Nat.{ℕ, suc, ◌+◌, ◌-◌, ◌≤◌, ◌<◌}
use native.Mathlib.Omega.{arith}
use borrow.Author.Tests.{eqb-true, eqb-false, ne_eqb, ltb-true, ltb-false, lt-leb, leb-false, not-true}
use lib.Dec.{eqb, leb, ltb}
use lib.ListN.{length, get_or, take, drop, drop_of_length-le}
use lib.Seq.{length-take-le, get_or-take}
use Rattle.line.specs.Runs.{every}
use Rattle.line.proofs.Runs.{left-next, and_left, and_right}
use Rattle.meter.specs.Character.{symbol}
use Rattle.line.specs.Characters.{damaged_at, seven}
use Rattle.whole.specs.Gathering.{is, is_not, held_next, held_after, held_at_last, held_over, held_in, any_held, front, last_of}
use Rattle.std.specs.Prelude.{Option, Some, None, MatchOption}

-- what any held says of how many
any-tells : (n : ℕ) (r : Option ℕ) → r ≡ any_held n → MatchOption r (n ≡ 0) (λ k. (n ≡ k) × (1 ≤ k))
any-tells n r e = rw e (go (eqb n 0) refl)
  where
    go : (z : Bool) → eqb n 0 ≡ z → MatchOption (cond z None (Some n)) (n ≡ 0) (λ k. (n ≡ k) × (1 ≤ k))
    go true z = eqb-true n 0 z
    go false z = (refl, omega (arith, eqb-false n 0 z))

pub some_held : (n k : ℕ) → Some k ≡ any_held n → (n ≡ k) × (1 ≤ k)
some_held n k e = any-tells n (Some k) e

pub none_held : (n : ℕ) → None ≡ any_held n → n ≡ 0
none_held n e = any-tells n None e

pub held-some : (n : ℕ) → 1 ≤ n → Some n ≡ any_held n
held-some n h = rw (ne_eqb n 0 (λ e. omega (arith, h, e)))

-- no SOH in it and no ETX before its last: all are held
plain-all : (n before : ℕ) (bs : List ℕ) → 1 ≤ n → n + length bs ≤ 63 → every (is_not 1) bs ≡ true → every (is_not 3) (take (length bs) (before ∷ bs)) ≡ true
    → held_after n before bs ≡ n + length bs
unfolding held_after held_next every
plain-all n before [] some few no-soh no-etx = omega arith
plain-all n before (b ∷ bs) some few no-soh no-etx =
    let soh : is 1 b ≡ false = not-true (is 1 b) (and_left (is_not 1 b) (every (is_not 1) bs) no-soh) in
    let etx : is 3 before ≡ false = not-true (is 3 before) (and_left (is_not 3 before) (every (is_not 3) (take (length bs) (b ∷ bs))) no-etx) in
    let rest = plain-all (n + 1) b bs (omega arith) (omega arith) (and_right (is_not 1 b) (every (is_not 1) bs) no-soh) (and_right (is_not 3 before) (every (is_not 3) (take (length bs) (b ∷ bs))) no-etx) in
    rw (ne_eqb n 0 (λ e. omega (arith, some, e)), etx, soh, lt-leb 63 n (omega arith)) (rest ∙ omega arith)

pub plain_over : (run : List ℕ) → 1 ≤ length run → length run ≤ 63 → every (is_not 1) (drop 1 run) ≡ true → every (is_not 3) (take (length run - 1) run) ≡ true
    → length run ≡ held_over run
unfolding held_over
plain_over [] some few no-soh no-etx = absurd (omega arith)
plain_over (b ∷ bs) some few no-soh no-etx =
    let n : suc (length bs) - 1 ≡ length bs = omega arith in
    omega (arith, plain-all 1 b bs (omega arith) (omega arith) no-soh (ap (λ (k : ℕ). every (is_not 3) (take k (b ∷ bs))) (sym n) ∙ no-etx))

-- a slice of one byte, or of none, finishes nothing
pub zero-none : (c : ℕ) → is (suc c) 0 ≡ false
unfolding is symbol seven
zero-none c = go (damaged_at 0)
  where
    go : (d : Bool) → eqb (cond d 0 0) (suc c) ≡ false
    go true = ne_eqb 0 (suc c) (λ e. omega (arith, e))
    go false = ne_eqb 0 (suc c) (λ e. omega (arith, e))

pub short_none : (bytes : List ℕ) → length bytes < 2 → held_in bytes ≡ 0
unfolding held_in held_over held_after held_at_last
short_none [] h = rw (zero-none 0)
short_none (b ∷ []) h = rw (zero-none 2) (go (is 1 b))
  where
    go : (p : Bool) → ◌≡◌ {A = ℕ} (cond p (cond p 0 (cond (leb 63 1) 1 0)) 0) 0
    go true = refl
    go false = refl
short_none (b ∷ c ∷ bytes) h = absurd (omega arith)

-- the byte before the last
pub front-last : (bytes : List ℕ) → 2 ≤ length bytes → last_of (front bytes) ≡ get_or bytes (length bytes - 2) 0
front-last bytes h =
    let n : length (front bytes) - 1 ≡ length bytes - 2 = omega (arith, length-take-le (length bytes - 1) bytes (omega arith)) in
    ap (λ (k : ℕ). get_or (front bytes) k 0) n ∙ get_or-take (length bytes - 1) bytes (length bytes - 2) 0 (omega arith)

-- how many are held at most: no more than came, and no more than there are places
module _ (n before b : ℕ) where
  next-few : (held_next n before b ≤ n + 1) × (n ≤ 63 → held_next n before b ≤ 63)
  unfolding held_next
  next-few = go (eqb n 0) (is 3 before) (is 1 b) (leb 63 n) refl
    where
      go : (z p q f : Bool) → leb 63 n ≡ f
          → (cond z 0 (cond p 0 (cond q 1 (cond f 0 (n + 1)))) ≤ n + 1) × (n ≤ 63 → cond z 0 (cond p 0 (cond q 1 (cond f 0 (n + 1)))) ≤ 63)
      go true p q f e = (omega arith, λ h. omega arith)
      go false true q f e = (omega arith, λ h. omega arith)
      go false false true f e = (omega arith, λ h. omega arith)
      go false false false true e = (omega arith, λ h. omega arith)
      go false false false false e = (omega arith, λ h. omega (arith, leb-false 63 n e))

  pub last-few : held_at_last n before b ≤ n
  unfolding held_at_last
  last-few = go (is 3 before) (is 1 b) (leb 63 n)
    where
      go : (p q f : Bool) → cond p n (cond q 0 (cond f n 0)) ≤ n
      go true q f = omega arith
      go false true f = omega arith
      go false false true = omega arith
      go false false false = omega arith

pub after-few : (n before : ℕ) (bs : List ℕ) → (held_after n before bs ≤ n + length bs) × (n ≤ 63 → held_after n before bs ≤ 63)
unfolding held_after
after-few n before [] = (omega arith, λ h. h)
after-few n before (b ∷ bs) =
    let one = next-few n before b in
    let rest = after-few (held_next n before b) b bs in
    (omega (arith, one.0, rest.0), λ h. rest.1 (one.1 h))

-- where no frame can come, none comes
pub after_dead : (before : ℕ) (bs : List ℕ) → held_after 0 before bs ≡ 0
unfolding held_after held_next
after_dead before [] = refl
after_dead before (b ∷ bs) = after_dead b bs

pub last-dead : (before b : ℕ) → held_at_last 0 before b ≡ 0
last-dead before b = omega (arith, last-few 0 before b)

-- a turn of a walk over what follows the first byte, and its end
module _ (rest : List ℕ) (i held before whole : ℕ) where
  pub after_turn : i < length rest → held_after held before (drop i rest) ≡ whole
      → held_after (held_next held before (get_or rest i 0)) (get_or rest i 0) (drop (i + 1) rest) ≡ whole
  unfolding held_after
  after_turn h e = rw (left-next i rest h) at e

  pub after-end : length rest ≤ i → held_after held before (drop i rest) ≡ whole → held ≡ whole
  unfolding held_after
  after-end h e = rw (drop_of_length-le rest h) at e

  -- no frame can come of it
  pub after-none : i < length rest → held_after held before (drop i rest) ≡ whole → held_next held before (get_or rest i 0) ≡ 0 → whole ≡ 0
  after-none h e z = sym (after_turn h e) ∙ ap (λ (n : ℕ). held_after n (get_or rest i 0) (drop (i + 1) rest)) z ∙ after_dead (get_or rest i 0) (drop (i + 1) rest)

over-few : (run : List ℕ) → 1 ≤ length run → (held_over run ≤ length run) × (held_over run ≤ 63)
unfolding held_over
over-few [] h = absurd (omega arith)
over-few (b ∷ bs) h = let f = after-few 1 b bs in (omega (arith, f.0), f.1 (omega arith))

pub in-few : (bytes : List ℕ) → 2 ≤ length bytes → (held_in bytes + 1 ≤ length bytes) × (held_in bytes ≤ 63)
unfolding held_in
in-few bytes h = go (is 1 (get_or bytes 0 0))
  where
    few : (held_over (front bytes) + 1 ≤ length bytes) × (held_over (front bytes) ≤ 63)
    few =
        let n = length-take-le (length bytes - 1) bytes (omega arith) in
        let o = over-few (front bytes) (omega (arith, n, h)) in
        (omega (arith, o.0, n, h), o.1)

    go : (p : Bool) → (cond p (held_at_last (held_over (front bytes)) (last_of (front bytes)) (last_of bytes)) 0 + 1 ≤ length bytes)
        × (cond p (held_at_last (held_over (front bytes)) (last_of (front bytes)) (last_of bytes)) 0 ≤ 63)
    go true =
        let l = last-few (held_over (front bytes)) (last_of (front bytes)) (last_of bytes) in
        (omega (arith, l, few.0), omega (arith, l, few.1))
    go false = (omega arith, omega arith)

-- where a frame is finished, there is a byte more than are held
pub some-few : (bytes : List ℕ) → (held_in bytes ≡ 0 → ⊥) → (held_in bytes + 1 ≤ length bytes) × (held_in bytes ≤ 63)
some-few bytes some = go (ltb (length bytes) 2) refl
  where
    go : (p : Bool) → ltb (length bytes) 2 ≡ p → (held_in bytes + 1 ≤ length bytes) × (held_in bytes ≤ 63)
    go true e = absurd (some (short_none bytes (ltb-true (length bytes) 2 e)))
    go false e = in-few bytes (ltb-false (length bytes) 2 e)
