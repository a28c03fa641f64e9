-- The other way: what is read as a set is the line of a good set, and the next place is behind that line. Assumes nothing.
use mathlib.Core.Path.{◌≡◌, refl, sym, ap, ap₂, ◌∙◌}
use mathlib.Core.Bool.{Bool, true, false, cond, ◌&&◌}
use mathlib.Core.List.{List, [], ◌∷◌, ◌++◌}
use Prim.Native.Nat.{ℕ, zero, suc, ◌+◌, ◌≤◌}
use native.Mathlib.Omega.{arith}
use borrow.Author.Tests.{leb-true, le-leb, eqb-true}
use lib.Dec.{leb, eqb}
use lib.ListN.{length, take, drop, get_or, take-append-drop, length-drop}
use lib.Seq.{length-take-le, drop-drop}
use Rattle.line.specs.Runs.{every}
use Rattle.line.proofs.Runs.{and_left, and_right, left-next}
use Rattle.text.specs.Classes.{between, is_address, is_value}
use Rattle.datasets.specs.Sets.{line_of}
use Rattle.datasets.specs.Good.{good_set}
use Rattle.reading.specs.Sets.{of_kind, leading, starts_with3, set_at, is_set, address_length, value_length, set_read, SetRead}
use Rattle.reading.proofs.Inside.{Tested, tested, shown, set-closed}
use Rattle.reading.specs.Whole.{set_of}
use Rattle.reading.proofs.Leading.{address-led, value-led}
use Rattle.readback.proofs.Lines.{line-opened}

-- three characters that a text starts with
starts : (x y z : ℕ) (u : List ℕ) → starts_with3 x y z u ≡ true → u ≡ x ∷ y ∷ z ∷ drop 3 u
unfolding starts_with3
starts x y z [] h = absurd (let e : ◌≡◌ {A = ℕ} 0 1 = cc in omega arith)
starts x y z (a ∷ []) h = absurd (let e : ◌≡◌ {A = ℕ} 0 1 = cc in omega arith)
starts x y z (a ∷ b ∷ []) h = absurd (let e : ◌≡◌ {A = ℕ} 0 1 = cc in omega arith)
starts x y z (a ∷ b ∷ c ∷ u) h =
    let k = and_right (leb 3 (length (a ∷ b ∷ c ∷ u))) (eqb a x && (eqb b y && eqb c z)) h in
    let l = and_right (eqb a x) (eqb b y && eqb c z) k in
    ap₂ ◌∷◌ (eqb-true a x (and_left (eqb a x) (eqb b y && eqb c z) k))
    (ap₂ ◌∷◌ (eqb-true b y (and_left (eqb b y) (eqb c z) l)) (ap₂ ◌∷◌ (eqb-true c z (and_right (eqb b y) (eqb c z) l)) refl))

module _ (t : List ℕ) (a v : ℕ) (h : is_set t a v ≡ true) where
  from-close : drop (a + 1 + v) t ≡ 41 ∷ 13 ∷ 10 ∷ drop (a + 1 + v + 3) t
  from-close =
      starts 41 13 10 (drop (a + 1 + v) t) (tested t a v h).closes ∙ ap (λ (l : List ℕ). 41 ∷ 13 ∷ 10 ∷ l) (drop-drop 3 (a + 1 + v) t)

  from-value : drop (a + 1) t ≡ take v (drop (a + 1) t) ++ (41 ∷ 13 ∷ 10 ∷ drop (a + 1 + v + 3) t)
  from-value =
      sym (take-append-drop v (drop (a + 1) t)) ∙ ap (λ (l : List ℕ). take v (drop (a + 1) t) ++ l) (drop-drop v (a + 1) t ∙ from-close)

  from-open : drop a t ≡ 40 ∷ (take v (drop (a + 1) t) ++ (41 ∷ 13 ∷ 10 ∷ drop (a + 1 + v + 3) t))
  from-open = left-next a t (omega (arith, set-closed t a v h)) ∙ ap₂ ◌∷◌ (tested t a v h).bracket from-value

  -- it is a line, and what follows it
  set_line : t ≡ line_of (record { address = take a t; value = take v (drop (a + 1) t) }) ++ drop (a + 1 + v + 3) t
  set_line =
      sym (take-append-drop a t)
      ∙ ap (λ (l : List ℕ). take a t ++ l) from-open
      ∙ sym (line-opened (record { address = take a t; value = take v (drop (a + 1) t) }) (drop (a + 1 + v + 3) t))

  -- of a good set, where the lengths are those of the runs
  set-good : every is_address (take a t) ≡ true → every is_value (take v (drop (a + 1) t)) ≡ true
      → good_set (record { address = take a t; value = take v (drop (a + 1) t) }) ≡ true
  unfolding good_set between
  set-good ha hv =
      let k = tested t a v h in
      let room = set-closed t a v h in
      let n : length (take a t) ≡ a = length-take-le a t (omega arith) in
      let m : length (take v (drop (a + 1) t)) ≡ v = length-take-le v (drop (a + 1) t) (omega (arith, length-drop (a + 1) t)) in
      rw (n, m, le-leb 1 a k.some, le-leb a 16 k.short, ha, le-leb v 32 k.small, hv)

-- what was read at a place is the line of a good set there, and the reader goes on behind it
pub record Exactly (s : List ℕ) (at : ℕ) (r : SetRead) : Type 0 where
  pub line : drop at s ≡ line_of (set_of s at r) ++ drop r.next s
  pub good : good_set (set_of s at r) ≡ true

module _ (s : List ℕ) (at a v : ℕ) where
  value_there : drop (a + 1) (drop at s) ≡ drop (at + a + 1) s
  value_there = drop-drop (a + 1) at s ∙ ap (λ (n : ℕ). drop n s) {x = at + (a + 1)} {y = at + a + 1} (omega arith)

  rest-there : drop (a + 1 + v + 3) (drop at s) ≡ drop (at + a + 1 + v + 3) s
  rest-there = drop-drop (a + 1 + v + 3) at s ∙ ap (λ (n : ℕ). drop n s) {x = at + (a + 1 + v + 3)} {y = at + a + 1 + v + 3} (omega arith)

  set-exactly : is_set (drop at s) a v ≡ true → every is_address (take a (drop at s)) ≡ true → every is_value (take v (drop (a + 1) (drop at s))) ≡ true
      → Exactly s at (set_at at a v)
  unfolding set_of
  set-exactly h ha hv =
      record { line = rw (← rest-there, ← value_there) (set_line (drop at s) a v h); good = rw (← value_there) (set-good (drop at s) a v h ha hv) }

pub read-is-line : (s : List ℕ) (at : ℕ) → (set_read s at).number ≡ 1 → Exactly s at (set_read s at)
read-is-line s at h =
    let t = drop at s in
    let a = address_length t in
    let k = shown s at h in
    rw k.is (set-exactly s at a (value_length t a) k.set (address-led t) (value-led t a))
