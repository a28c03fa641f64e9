-- The longest shared beginning, of any kind of text: there is one; kinds that are the same share the same; a beginning that every
-- text of the kind is shorter than stands for the whole; and a front that all go through is passed. Assumes nothing.
use mathlib.Core.Path.{◌≡◌, sym, ap, ◌∙◌}
use mathlib.Core.Logic.{◌⊎◌, inl, inr, ⊎_elim}
use mathlib.Core.List.{List, ◌++◌}
use Prim.Native.Nat.{ℕ, zero, suc, ◌+◌, ◌-◌, ◌<◌, ◌≤◌}
use native.Mathlib.Omega.{arith}
use lib.ListN.{length, get_or, take, drop, length-append, length-drop}
use lib.Seq.{get_or-take, take_at, drop_at, length-take-le, take-take, take-add, take-append-add}
use Rattle.text.specs.Beginnings.{Shares, Longest}

pub le-or-lt : (a b : ℕ) → (a ≤ b) ⊎ (b < a)
le-or-lt zero b = inl (omega arith)
le-or-lt (suc a) zero = inr (omega arith)
le-or-lt (suc a) (suc b) = ⊎_elim (λ h. inl (omega arith)) (λ h. inr (omega arith)) (le-or-lt a b)

-- what is the same in the first k characters is the same at each of them
pub same_at : (k : ℕ) (s t : List ℕ) → take k s ≡ take k t → (j : ℕ) → j < k → get_or s j 0 ≡ get_or t j 0
same_at k s t e j h = sym (get_or-take k s j 0 h) ∙ ap (λ (l : List ℕ). get_or l j 0) e ∙ get_or-take k t j 0 h

-- two texts with the same first n + m characters, seen behind the first n
same-behind : (n m : ℕ) (s t : List ℕ) → n ≤ length s → n ≤ length t → take (n + m) s ≡ take (n + m) t → take m (drop n s) ≡ take m (drop n t)
same-behind n m s t h k e =
    sym (drop_at (take n s) (take m (drop n s)) n (length-take-le n s h))
    ∙ ap (drop n) (sym (take-add n m s) ∙ e ∙ take-add n m t)
    ∙ drop_at (take n t) (take m (drop n t)) n (length-take-le n t k)

-- fewer characters are shared as well
pub same-front : (j k : ℕ) (s t : List ℕ) → j ≤ k → take k s ≡ take k t → take j s ≡ take j t
same-front j k s t h e = sym (take-take j k s h) ∙ ap (take j) e ∙ take-take j k t h

-- there is one longest beginning
pub one-longest : (P : List ℕ → Type 0) (text : List ℕ) (j k : ℕ) → Longest P text j → Longest P text k → j ≡ k
one-longest P text j k a b = omega (arith, a.most k b.shared, b.most j a.shared)

-- shared with texts of one kind is shared with those of another that are the same
module _ (P Q : List ℕ → Type 0) (there : (s : List ℕ) → P s → Q s) (back : (s : List ℕ) → Q s → P s) (text : List ℕ) where
  shares-with : (k : ℕ) → Shares P text k → Shares Q text k
  shares-with k sh =
      record { other = sh.other; is_whole = there sh.other sh.is_whole; within = sh.within; within-other = sh.within-other; same = sh.same }

  shares-back : (k : ℕ) → Shares Q text k → Shares P text k
  shares-back k sh =
      record { other = sh.other; is_whole = back sh.other sh.is_whole; within = sh.within; within-other = sh.within-other; same = sh.same }

  pub longest-with : (k : ℕ) → Longest P text k → Longest Q text k
  longest-with k g = record { shared = shares-with k g.shared; most = λ j sh. g.most j (shares-back j sh) }

-- the beginning of a text stands for all of it, where no text of the kind is longer than that
module _ (P : List ℕ → Type 0) (size : ℕ) (text : List ℕ) (short : (s : List ℕ) → P s → length s ≤ size) (long : size ≤ length text) where
  cut-long : length (take size text) ≡ size
  cut-long = length-take-le size text long

  shares_whole : (k : ℕ) → Shares P (take size text) k → Shares P text k
  shares_whole k sh =
      let h = sh.within in
      record {
        other = sh.other;
        is_whole = sh.is_whole;
        within = omega (arith, cut-long);
        within-other = sh.within-other;
        same = sh.same ∙ take-take k size text (omega (arith, cut-long));
      }

  shares_cut : (k : ℕ) → Shares P text k → Shares P (take size text) k
  shares_cut k sh =
      let h : k ≤ size = omega (arith, sh.within-other, short sh.other sh.is_whole) in
      record {
        other = sh.other;
        is_whole = sh.is_whole;
        within = omega (arith, cut-long);
        within-other = sh.within-other;
        same = sh.same ∙ sym (take-take k size text h);
      }

  pub longest-whole : (k : ℕ) → Longest P (take size text) k → Longest P text k
  longest-whole k g = record { shared = shares_whole k g.shared; most = λ j sh. g.most j (shares_cut j sh) }

-- behind a front of n characters, texts of one kind go on as texts of another: the place counts from the front's end
module _ (P Q : List ℕ → Type 0) (front : List ℕ) (n : ℕ) (long : length front ≡ n)
    (put : (t : List ℕ) → Q t → P (front ++ t)) (below : (v : List ℕ) → P v → take n v ≡ front → Q (drop n v)) where
  longer : (t : List ℕ) → length (front ++ t) ≡ n + length t
  longer t = length-append front t ∙ ap (λ (k : ℕ). k + length t) long

  shares-below : (t : List ℕ) (m : ℕ) → Shares P (front ++ t) (n + m) → Shares Q t m
  shares-below t m sh =
      let o = sh.other in
      let begins : take n o ≡ front = same-front n (n + m) o (front ++ t) (omega arith) sh.same ∙ take_at front t n long in
      let in-text : n + m ≤ length (front ++ t) = sh.within in
      let in-other : n + m ≤ length o = sh.within-other in
      record {
        other = drop n o;
        is_whole = below o sh.is_whole begins;
        within = omega (arith, longer t);
        within-other = rw (length-drop n o) (omega arith);
        same = same-behind n m o (front ++ t) (omega arith) (omega (arith, longer t)) sh.same ∙ ap (take m) (drop_at front t n long);
      }

  pub longest-below : (t : List ℕ) (k : ℕ) → Longest Q t k → Longest P (front ++ t) (n + k)
  longest-below t k g =
      let sh = g.shared in
      record {
        shared =
            record {
              other = front ++ sh.other;
              is_whole = put sh.other sh.is_whole;
              within = omega (arith, longer t, sh.within);
              within-other = omega (arith, longer sh.other, sh.within-other);
              same = begins sh.other ∙ ap (λ (x : List ℕ). front ++ x) sh.same ∙ sym (begins t);
            };
        most =
            λ j sj.
            ⊎_elim (λ h. omega arith)
            (λ h.
            let e : n + (j - n) ≡ j = omega arith in
            omega (arith, g.most (j - n) (shares-below t (j - n) (rw e sj)))) (le-or-lt j n);
      }
    where
      begins : (x : List ℕ) → take (n + k) (front ++ x) ≡ front ++ take k x
      begins x = ap (λ (i : ℕ). take (i + k) (front ++ x)) (sym long) ∙ take-append-add front x k
