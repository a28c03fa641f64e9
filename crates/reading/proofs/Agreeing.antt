-- A data set is read by its own characters alone: data that agrees with other data up to the end of a set has that set too. Assumes nothing.
use mathlib.Core.Path.{◌≡◌, refl, sym, ap, ◌∙◌}
use mathlib.Core.Bool.{Bool, true, false, cond, ◌&&◌}
use mathlib.Core.List.{List, [], ◌∷◌}
use Prim.Native.Nat.{ℕ, zero, suc, ◌+◌, ◌<◌, ◌≤◌}
use native.Mathlib.Omega.{arith}
use borrow.Author.Tests.{leb-true, le-leb}
use lib.Dec.{leb, eqb}
use lib.ListN.{length, take, drop, get_or, length-take, length-drop}
use lib.Seq.{length-take-le, take-add, take-take, drop_at, drop-drop, get_or-take, get_or-drop}
use Rattle.line.proofs.Runs.{and_left}
use Rattle.reading.specs.Sets.{SetRead, of_kind, leading, starts_with3, set_at, address_length, value_length, set_read}
use Rattle.reading.proofs.Deciding.{no_end, by_value}
use Rattle.reading.proofs.Inside.{Tested, tested, shown, set-closed}

-- as many characters of a kind lead, where the first of another kind is shared too
leading-same : (p : ℕ → Bool) (k : ℕ) (u w : List ℕ) → leading p k u < k → leading p k u < length u
    → take (suc (leading p k u)) u ≡ take (suc (leading p k u)) w → leading p k w ≡ leading p k u
unfolding leading
leading-same p zero u w few there e = absurd (omega arith)
leading-same p (suc k) [] w few there e = absurd (omega arith)
leading-same p (suc k) (c ∷ u) [] few there e = absurd (let z : ◌≡◌ {A = ℕ} 0 1 = cc in omega arith)
leading-same p (suc k) (c ∷ u) (d ∷ w) few there e = by_kind (p c) refl (λ l m f. leading-same p k u w l m f) few there e
  where
    by_kind : (b : Bool) → p c ≡ b → (leading p k u < k → leading p k u < length u → take (suc (leading p k u)) u ≡ take (suc (leading p k u)) w → leading p k w ≡ leading p k u)
        → cond b (suc (leading p k u)) 0 < suc k → cond b (suc (leading p k u)) 0 < length (c ∷ u)
        → take (suc (cond b (suc (leading p k u)) 0)) (c ∷ u) ≡ take (suc (cond b (suc (leading p k u)) 0)) (d ∷ w)
        → cond (p d) (suc (leading p k w)) 0 ≡ cond b (suc (leading p k u)) 0
    by_kind true h again l m f =
        let same : c ≡ d = cc in
        let rest : take (suc (leading p k u)) u ≡ take (suc (leading p k u)) w = cc in
        rw (← same, h) (ap suc (again (omega arith) (omega arith) rest))
    by_kind false h again l m f =
        let same : c ≡ d = cc in
        rw (← same, h)

starts-same : (x y z : ℕ) (u w : List ℕ) → take 3 u ≡ take 3 w → starts_with3 x y z u ≡ true → starts_with3 x y z w ≡ true
unfolding starts_with3
starts-same x y z u w e h =
    let long : 3 ≤ length u = leb-true 3 (length u) (and_left (leb 3 (length u)) _ h) in
    let enough : 3 ≤ length w = omega (arith, ap length e, length-take 3 u, length-take 3 w) in
    let g : (i : ℕ) → i < 3 → get_or u i 0 ≡ get_or w i 0 = λ i l. sym (get_or-take 3 u i 0 l) ∙ ap (λ (v : List ℕ). get_or v i 0) e ∙ get_or-take 3 w i 0 l in
    rw (le-leb 3 (length w) enough, ← g 0 (omega arith), ← g 1 (omega arith), ← g 2 (omega arith)) (rw (le-leb 3 (length u) long) at h)

-- the same characters up to an end that lies within both
pub record Agree (s t : List ℕ) (end : ℕ) : Type 0 where
  pub within : end ≤ length s
  pub there : end ≤ length t
  pub same : take end s ≡ take end t

pub agree : (s t : List ℕ) (end : ℕ) → end ≤ length s → take end s ≡ take end t → Agree s t end
agree s t end h e = record { within = h; there = omega (arith, h, ap length e, length-take end s, length-take end t); same = e }

module _ (s t : List ℕ) (end : ℕ) (g : Agree s t end) where
  front : (u : List ℕ) (i m : ℕ) → end ≤ length u → i + m ≤ end → take m (drop i u) ≡ drop i (take (i + m) (take end u))
  front u i m l h = sym (rw (take-take (i + m) end u h, take-add i m u) (drop_at (take i u) (take m (drop i u)) i (length-take-le i u (omega arith))))

  -- so a part of one that lies before the end is the same part of the other
  pub same-part : (i m : ℕ) → i + m ≤ end → take m (drop i s) ≡ take m (drop i t)
  same-part i m h = front s i m g.within h ∙ ap (λ (u : List ℕ). drop i (take (i + m) u)) g.same ∙ sym (front t i m g.there h)

  module _ (at : ℕ) (set : (set_read s at).number ≡ 1) (ends : (set_read s at).next ≤ end) where
    abbrev a : ℕ
    a = address_length (drop at s)

    abbrev v : ℕ
    v = value_length (drop at s) a

    -- where the set lies
    record Lies : Type 0 where
      is : set_read s at ≡ set_at at a v
      tests : Tested (drop at s) a v
      before-end : at + a + 1 + v + 3 ≤ end
      room : a + 1 + v + 3 ≤ length (drop at s)

    lies : Lies
    lies =
        let k = shown s at set in
        let e : (set_read s at).next ≡ at + a + 1 + v + 3 = ap (λ (r : SetRead). r.next) k.is in
        record { is = k.is; tests = tested (drop at s) a v k.set; before-end = omega (arith, e, ends); room = set-closed (drop at s) a v k.set }

    address_same : leading (of_kind false) 17 (drop at t) ≡ a
    unfolding address_length
    address_same =
        let k = lies in
        leading-same (of_kind false) 17 (drop at s) (drop at t) (omega (arith, k.tests.short)) (omega (arith, k.room)) (same-part at (suc a) (omega (arith, k.before-end)))

    value-starts : (u : List ℕ) → drop (a + 1) (drop at u) ≡ drop (at + a + 1) u
    value-starts u = drop-drop (a + 1) at u ∙ ap (λ (n : ℕ). drop n u) {x = at + (a + 1)} {y = at + a + 1} (omega arith)

    value_same : leading (of_kind true) 33 (drop (at + a + 1) t) ≡ v
    unfolding value_length
    value_same =
        let k = lies in
        leading-same (of_kind true) 33 (drop (a + 1) (drop at s)) (drop (at + a + 1) t) (omega (arith, k.tests.small)) (omega (arith, k.room, length-drop (a + 1) (drop at s)))
        (ap (take (suc v)) (value-starts s) ∙ same-part (at + a + 1) (suc v) (omega (arith, k.before-end)))

    bracket-same : get_or t (at + a) 0 ≡ 40
    bracket-same =
        let k = lies in
        let in-part : (u : List ℕ) → get_or (take (suc a) (drop at u)) a 0 ≡ get_or (drop at u) a 0 = λ u. get_or-take (suc a) (drop at u) a 0 (omega arith) in
        sym (get_or-drop at t a 0) ∙ sym (in-part t) ∙ ap (λ (w : List ℕ). get_or w a 0) (sym (same-part at (suc a) (omega (arith, k.before-end)))) ∙ in-part s ∙ k.tests.bracket

    close-same : starts_with3 41 13 10 (drop (at + a + 1 + v) t) ≡ true
    close-same =
        let k = lies in
        let e : drop (a + 1 + v) (drop at s) ≡ drop (at + a + 1 + v) s = drop-drop (a + 1 + v) at s ∙ ap (λ (n : ℕ). drop n s) {x = at + (a + 1 + v)} {y = at + a + 1 + v} (omega arith) in
        starts-same 41 13 10 (drop (at + a + 1 + v) s) (drop (at + a + 1 + v) t) (same-part (at + a + 1 + v) 3 k.before-end) (rw e at k.tests.closes)

    pub same_set : set_read t at ≡ set_read s at
    same_set =
        let k = lies in
        let goes_on : starts_with3 33 13 10 (drop at t) ≡ false = no_end 17 (drop at t) (λ z. let none : a ≡ 0 = sym address_same ∙ z in omega (arith, k.tests.some)) in
        let opens : ((leb 1 a && leb a 16) && eqb (get_or t (at + a) 0) 40) ≡ true = rw (le-leb 1 a k.tests.some, le-leb a 16 k.tests.short, bracket-same) in
        let closes : (leb v 32 && starts_with3 41 13 10 (drop (at + a + 1 + v) t)) ≡ true = rw (le-leb v 32 k.tests.small, close-same) in
        sym (by_value t at (omega (arith, k.before-end, g.there)) a (sym address_same) goes_on opens v true (sym value_same) closes) ∙ sym k.is
