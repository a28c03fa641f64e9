-- A line of two numbers reads back: what begins with two such lines has one number and one place. Assumes nothing.
use mathlib.Core.Path.{◌≡◌, refl, sym, ap, ◌∙◌}
use mathlib.Core.Bool.{Bool, true, false, ◌&&◌}
use mathlib.Core.List.{List, [], ◌∷◌, ◌++◌, append_assoc}
use Prim.Native.Nat.{ℕ, ◌^◌, ◌<◌}
use native.Mathlib.Omega.{arith}
use lib.ListN.{length, take, drop, take-append-drop}
use Rattle.line.specs.Runs.{every}
use Rattle.line.proofs.Runs.{and_left, and_right}
use Rattle.text.specs.Classes.{is_digit}
use Rattle.text.proofs.Decimal.{decimal-digits}
use Rattle.text.specs.Decimal.{value_of}
use Rattle.numerals.specs.Numerals.{width_of, digits_of, number_line, begins_with}
use Rattle.numerals.proofs.Widths.{digits-say}

-- digits up to the same character that is none are the same, and so is what stands behind them
ends-alike : (x : ℕ) → is_digit x ≡ false → (a b u v : List ℕ) → every is_digit a ≡ true → every is_digit b ≡ true
    → a ++ (x ∷ u) ≡ b ++ (x ∷ v) → (a ≡ b) × (u ≡ v)
unfolding every
ends-alike x n [] [] u v g h e = (refl, cc)
ends-alike x n [] (c ∷ b) u v g h e =
    absurd (let d = and_left (is_digit c) (every is_digit b) h in let k : x ≡ c = cc in let z : ◌≡◌ {A = Bool} true false = sym d ∙ ap is_digit (sym k) ∙ n in let y : ◌≡◌ {A = ℕ} 0 1 = cc in omega arith)
ends-alike x n (c ∷ a) [] u v g h e =
    absurd (let d = and_left (is_digit c) (every is_digit a) g in let k : x ≡ c = cc in let z : ◌≡◌ {A = Bool} true false = sym d ∙ ap is_digit (sym k) ∙ n in let y : ◌≡◌ {A = ℕ} 0 1 = cc in omega arith)
ends-alike x n (c ∷ a) (d ∷ b) u v g h e =
    let rest : a ++ (x ∷ u) ≡ b ++ (x ∷ v) = cc in
    let same = ends-alike x n a b u v (and_right (is_digit c) (every is_digit a) g) (and_right (is_digit d) (every is_digit b) h) rest in
    let first : c ≡ d = cc in
    let left = same.0 in
    let more : c ∷ a ≡ d ∷ b = cc in
    (more, same.1)

digits_all : (n : ℕ) → every is_digit (digits_of n) ≡ true
unfolding digits_of
digits_all n = decimal-digits (width_of n) n

-- a line with what stands behind it, from its first digit on
line-split : (n m : ℕ) (r : List ℕ) → number_line n m ++ r ≡ digits_of n ++ (32 ∷ (digits_of m ++ (10 ∷ r)))
unfolding number_line
line-split n m r =
    append_assoc (digits_of n) (32 ∷ (digits_of m ++ (10 ∷ []))) r
    ∙ ap (λ (l : List ℕ). digits_of n ++ (32 ∷ l)) (append_assoc (digits_of m) (10 ∷ []) r)

begun_split : (n m : ℕ) (s : List ℕ) → begins_with n m s → s ≡ digits_of n ++ (32 ∷ (digits_of m ++ (10 ∷ drop (length (number_line n m)) s)))
begun_split n m s h =
    let line = number_line n m in
    sym (take-append-drop (length line) s) ∙ ap (λ (l : List ℕ). l ++ drop (length line) s) h ∙ line-split n m (drop (length line) s)

-- the same numbers, where their digits are
say : (n m : ℕ) → n < 10 ^ 20 → m < 10 ^ 20 → digits_of n ≡ digits_of m → n ≡ m
say n m h k e = sym (digits-say n h) ∙ ap value_of e ∙ digits-say m k

pub one-line : (n p m q : ℕ) (s : List ℕ) → n < 10 ^ 20 → p < 10 ^ 20 → m < 10 ^ 20 → q < 10 ^ 20
    → begins_with n p s → begins_with m q s → (n ≡ m) × (p ≡ q)
unfolding is_digit
one-line n p m q s a b c d x y =
    let first = ends-alike 32 refl _ _ _ _ (digits_all n) (digits_all m) (sym (begun_split n p s x) ∙ begun_split m q s y) in
    let second = ends-alike 10 refl _ _ _ _ (digits_all p) (digits_all q) first.1 in
    (say n m a c first.0, say p q b d second.0)
