-- Four characters as one number: what is gathered of several by its bits passes just where each of the characters does.
-- Assumes nothing.
use Rattle.std.proofs.Common.{◌≡◌, ℕ, zero, suc, ◌+◌, ◌-◌, ◌*◌, ◌/◌, ◌%◌, ◌^◌, ◌<◌, ◌≤◌, min, max, Bool, true, false, cond, ◌&&◌, eqb, ltb, leb, List, [], ◌∷◌, length, get_or, take, drop, sym, refl, ap, ◌∙◌, ap₂, ⊎_elim, mod-lt, mod-eq_of_lt, zero-lt-suc, div-add-mod', arith, drop_of_length-le, length-take-le, take_all, get_or-take, drop-drop, le-ltb, lt-ltb, eq-eqb, ne_eqb, eqb-true, le-leb, leb-true}
use mathlib.Core.Bool.{and-true}
use lib.Arith.{bin_ind}
use lib.Bits.{bit_or, bit_and, and_step, or_step, and_shr, or_shr, and_mod, or_mod, or_zero_l, or_zero_r, or_add_and, and_le_r, and_block, and_high}
use Rattle.line.specs.Runs.{every}
use Rattle.line.proofs.Runs.{and_left, and_right, and_both, and_assoc, left-next}
use Rattle.text.specs.Classes.{between, is_digit}
use Rattle.text.proofs.Beginnings.{le-or-lt}
use Rattle.state.specs.Sizes.{held_places, first_rows, all_rows}
use Rattle.state.specs.Fours.{four_of, ones, in_row, in_seven, last_good}
use Rattle.state.specs.WellFormed.{held_good, tables_good}

-- two tests that pass where the other does
pub same_test : (s t : Bool) → (s ≡ true → t ≡ true) → (t ≡ true → s ≡ true) → s ≡ t
same_test true t f g = sym (f refl)
same_test false true f g = g refl
same_test false false f g = refl

-- what is gathered by its bits is nothing just where each part is
pub none-of-both : (x y : ℕ) → eqb (bit_or x y) 0 ≡ (eqb x 0 && eqb y 0)
none-of-both zero y = ap (λ (n : ℕ). eqb n 0) (or_zero_l y)
none-of-both (suc x) y =
    rw (ne_eqb (suc x) 0 (λ e. omega arith)) (ne_eqb (bit_or (suc x) y) 0 (λ e. omega (arith, or_add_and (suc x) y, and_le_r (suc x) y)))

-- the lowest digit of what is joined
or-digit : (x y : ℕ) → x < 2 → y < 2 → bit_or x y ≡ max x y
or-digit zero zero hx hy = refl
or-digit zero (suc zero) hx hy = refl
or-digit zero (suc (suc y)) hx hy = absurd (omega arith)
or-digit (suc zero) zero hx hy = refl
or-digit (suc zero) (suc zero) hx hy = refl
or-digit (suc zero) (suc (suc y)) hx hy = absurd (omega arith)
or-digit (suc (suc x)) y hx hy = absurd (omega arith)

and-digit : (x y : ℕ) → x < 2 → y < 2 → bit_and x y ≡ min x y
and-digit zero zero hx hy = refl
and-digit zero (suc zero) hx hy = refl
and-digit zero (suc (suc y)) hx hy = absurd (omega arith)
and-digit (suc zero) zero hx hy = refl
and-digit (suc zero) (suc zero) hx hy = refl
and-digit (suc zero) (suc (suc y)) hx hy = absurd (omega arith)
and-digit (suc (suc x)) y hx hy = absurd (omega arith)

digit_lt : (n : ℕ) → n % 2 < 2
digit_lt n = mod-lt n (zero-lt-suc 1)

or-low : (a b : ℕ) → bit_or a b % 2 ≡ max (a % 2) (b % 2)
or-low a b = or_mod a b 1 ∙ or-digit (a % 2) (b % 2) (digit_lt a) (digit_lt b)

and_low : (a b : ℕ) → bit_and a b % 2 ≡ min (a % 2) (b % 2)
and_low a b = and_mod a b 1 ∙ and-digit (a % 2) (b % 2) (digit_lt a) (digit_lt b)

digits-mask : (x y z : ℕ) → x < 2 → y < 2 → z < 2 → min (max x y) z ≡ max (min x z) (min y z)
digits-mask zero zero zero hx hy hz = refl
digits-mask zero zero (suc zero) hx hy hz = refl
digits-mask zero zero (suc (suc z)) hx hy hz = absurd (omega arith)
digits-mask zero (suc zero) zero hx hy hz = refl
digits-mask zero (suc zero) (suc zero) hx hy hz = refl
digits-mask zero (suc zero) (suc (suc z)) hx hy hz = absurd (omega arith)
digits-mask zero (suc (suc y)) z hx hy hz = absurd (omega arith)
digits-mask (suc zero) zero zero hx hy hz = refl
digits-mask (suc zero) zero (suc zero) hx hy hz = refl
digits-mask (suc zero) zero (suc (suc z)) hx hy hz = absurd (omega arith)
digits-mask (suc zero) (suc zero) zero hx hy hz = refl
digits-mask (suc zero) (suc zero) (suc zero) hx hy hz = refl
digits-mask (suc zero) (suc zero) (suc (suc z)) hx hy hz = absurd (omega arith)
digits-mask (suc zero) (suc (suc y)) z hx hy hz = absurd (omega arith)
digits-mask (suc (suc x)) y z hx hy hz = absurd (omega arith)

-- a mask over what is joined
mask-or : (a b m : ℕ) → bit_and (bit_or a b) m ≡ bit_or (bit_and a m) (bit_and b m)
mask-or a =
    bin_ind (λ (n : ℕ). (b m : ℕ) → bit_and (bit_or n b) m ≡ bit_or (bit_and n m) (bit_and b m)) (λ b m. refl)
    (λ n ih b m.
    and_step (bit_or n b) m
    ∙ ap₂ (λ (x y : ℕ). bit_and x (m / 2) * 2 + min y (m % 2)) (or_shr n b 1) (or-low n b)
    ∙ ap₂ (λ (x y : ℕ). x * 2 + y) (ih (b / 2) (m / 2)) (digits-mask (n % 2) (b % 2) (m % 2) (digit_lt n) (digit_lt b) (digit_lt m))
    ∙ sym (ap₂ (λ (x y : ℕ). x * 2 + y)
    (ap₂ bit_or (and_shr n m 1) (and_shr b m 1))
    (ap₂ max (and_low n m) (and_low b m)))
    ∙ sym (or_step (bit_and n m) (bit_and b m))) a

pub masked-both : (m x y : ℕ) → eqb (bit_and (bit_or x y) m) 0 ≡ (eqb (bit_and x m) 0 && eqb (bit_and y m) 0)
masked-both m x y = ap (λ (n : ℕ). eqb n 0) (mask-or x y m) ∙ none-of-both (bit_and x m) (bit_and y m)

-- four characters, one after the other, of which the first is the lowest
stacked : (a b c d : ℕ) → four_of a b c d ≡ ((d * 256 + c) * 256 + b) * 256 + a
unfolding four_of
stacked a b c d = omega arith

-- a mask over one character more is one over it and one over the others
one_more : (n m x y : ℕ) → x < 256 → y < 256 → eqb (bit_and (n * 256 + x) (m * 256 + y)) 0 ≡ (eqb (bit_and x y) 0 && eqb (bit_and n m) 0)
one_more n m x y hx hy = ap (λ (k : ℕ). eqb k 0) (and_block 8 n m x y hx hy) ∙ none_in (bit_and n m) (bit_and x y)
  where
    none_in : (k r : ℕ) → eqb (k * 256 + r) 0 ≡ (eqb r 0 && eqb k 0)
    none_in zero zero = refl
    none_in k (suc r) = rw (ne_eqb (suc r) 0 (λ e. omega arith)) (ne_eqb (k * 256 + suc r) 0 (λ e. omega arith))
    none_in (suc k) zero = rw (ne_eqb (suc k) 0 (λ e. omega arith)) (ne_eqb (suc k * 256 + 0) 0 (λ e. omega arith))

-- a test of four
abbrev pub each_of : (ℕ → Bool) → ℕ → ℕ → ℕ → ℕ → Bool
each_of p a b c d = p a && (p b && (p c && p d))

pub masked-four : (m a b c d : ℕ) → m < 256 → a < 256 → b < 256 → c < 256 → d < 256
    → eqb (bit_and (four_of a b c d) (four_of m m m m)) 0 ≡ each_of (λ (x : ℕ). eqb (bit_and x m) 0) a b c d
masked-four m a b c d hm ha hb hc hd =
    rw (stacked a b c d, stacked m m m m)
    (one_more ((d * 256 + c) * 256 + b) ((m * 256 + m) * 256 + m) a m ha hm
    ∙ ap (λ (t : Bool). eqb (bit_and a m) 0 && t)
    (one_more (d * 256 + c) (m * 256 + m) b m hb hm
    ∙ ap (λ (t : Bool). eqb (bit_and b m) 0 && t) (one_more d m c m hc hm)))

each-made : (p : ℕ → Bool) (a b c d : ℕ) → p a ≡ true → p b ≡ true → p c ≡ true → p d ≡ true → each_of p a b c d ≡ true
each-made p a b c d ha hb hc hd = rw (ha, hb, hc, hd)

-- what four that pass show
record Each (p : ℕ → Bool) (a b c d : ℕ) : Type 0 where
  pub first : p a ≡ true
  pub second : p b ≡ true
  pub third : p c ≡ true
  pub fourth : p d ≡ true

each-shown : (p : ℕ → Bool) (a b c d : ℕ) → each_of p a b c d ≡ true → Each p a b c d
each-shown p a b c d e =
    let behind = and_right (p a) (p b && (p c && p d)) e in
    let last = and_right (p b) (p c && p d) behind in
    record { first = and_left (p a) _ e; second = and_left (p b) _ behind; third = and_left (p c) _ last; fourth = and_right (p c) (p d) last }

-- the same of each is the same of four
each_same : (p q : ℕ → Bool) (a b c d : ℕ) → p a ≡ q a → p b ≡ q b → p c ≡ q c → p d ≡ q d → each_of p a b c d ≡ each_of q a b c d
each_same p q a b c d ha hb hc hd = rw (ha, hb, hc, hd)

-- no bit but the two lowest
low-two : (x : ℕ) → x < 256 → eqb (bit_and x 252) 0 ≡ leb x 3
low-two x h =
    ap (λ (k : ℕ). eqb k 0) (and_high x 6 2 ∙ ap (λ (k : ℕ). k * 4) (mod-eq_of_lt {n = x / 4} {m = 64} (omega arith)))
    ∙ same_test _ _ (λ e. le-leb x 3 (omega (arith, eqb-true (x / 4 * 4) 0 e))) (λ e. eq-eqb (x / 4 * 4) 0 (omega (arith, leb-true x 3 e)))

between-made : (lo hi x : ℕ) → lo ≤ x → x ≤ hi → between lo hi x ≡ true
unfolding between
between-made lo hi x l h = and_both (leb lo x) (leb x hi) (le-leb lo x l) (le-leb x hi h)

between-low : (lo hi x : ℕ) → between lo hi x ≡ true → lo ≤ x
unfolding between
between-low lo hi x e = leb-true lo x (and_left (leb lo x) (leb x hi) e)

between-high : (lo hi x : ℕ) → between lo hi x ≡ true → x ≤ hi
unfolding between
between-high lo hi x e = leb-true x hi (and_right (leb lo x) (leb x hi) e)

-- four times the same
four-times : (m : ℕ) → m * 16843009 ≡ four_of m m m m
unfolding four_of
four-times m = omega arith

-- what wraps less than once did not wrap
no_wrap : (r a : ℕ) → r % 4294967296 ≡ a → r < a + 4294967296 → r ≡ a
no_wrap r a e h = omega (arith, div-add-mod' r 4294967296, e)

-- a number has one lowest character
lane : (u v m n : ℕ) → u < 256 → v < 256 → u + m * 256 ≡ v + n * 256 → m ≡ n
lane u v m n hu hv e =
    ⊎_elim (λ l. ⊎_elim (λ k. omega arith) (λ k. absurd (omega (arith, e))) (le-or-lt n m)) (λ l. absurd (omega (arith, e))) (le-or-lt m n)

record Same (x y z t a b c d : ℕ) : Type 0 where
  pub first : x ≡ a
  pub second : y ≡ b
  pub third : z ≡ c
  pub fourth : t ≡ d

fours-same : (x y z t a b c d : ℕ) → x < 256 → y < 256 → z < 256 → a < 256 → b < 256 → c < 256 → four_of x y z t ≡ four_of a b c d → Same x y z t a b c d
unfolding four_of
fours-same x y z t a b c d hx hy hz ha hb hc e =
    let three = lane x a (y + z * 256 + t * 65536) (b + c * 256 + d * 65536) hx ha (omega (arith, e)) in
    let two = lane y b (z + t * 256) (c + d * 256) hy hb (omega (arith, three)) in
    let one = lane z c t d hz hc (omega (arith, two)) in
    record { first = omega (arith, e, three); second = omega (arith, three, two); third = omega (arith, two, one); fourth = one }

four-lt : (x y z t : ℕ) → x < 256 → y < 256 → z < 256 → t < 256 → four_of x y z t < 4294967296
unfolding four_of
four-lt x y z t hx hy hz ht = omega (arith, hx, hy, hz, ht)

-- four raised by the same, where none of them carries, and four lowered, where none borrows
four-plus : (k x y z t : ℕ) → four_of x y z t + k * 16843009 ≡ four_of (x + k) (y + k) (z + k) (t + k)
unfolding four_of
four-plus k x y z t = omega arith

back-up : (k a : ℕ) → k ≤ a → (a - k) + k ≡ a
back-up k a h = omega (arith, h)

module _ (k x y z t a b c d : ℕ) (ha : a < 256) (hb : b < 256) (hc : c < 256) (hd : d < 256) (e : (four_of x y z t + k * 16843009) % 4294967296 ≡ four_of a b c d) where
  raised : x + k < 256 → y + k < 256 → z + k < 256 → t + k < 256 → Same (x + k) (y + k) (z + k) (t + k) a b c d
  raised hx hy hz ht =
      let plus = four-plus k x y z t in
      let sum = no_wrap (four_of x y z t + k * 16843009) (four_of a b c d) e (omega (arith, plus, four-lt (x + k) (y + k) (z + k) (t + k) hx hy hz ht)) in
      fours-same (x + k) (y + k) (z + k) (t + k) a b c d hx hy hz ha hb hc (sym plus ∙ sum)

  lowered : x < 256 → y < 256 → z < 256 → t < 256 → k ≤ a → k ≤ b → k ≤ c → k ≤ d → Same x y z t (a - k) (b - k) (c - k) (d - k)
  lowered hx hy hz ht la lb lc ld =
      let less : four_of (a - k) (b - k) (c - k) (d - k) + k * 16843009 ≡ four_of a b c d = rw (back-up k a la, back-up k b lb, back-up k c lc, back-up k d ld) at (four-plus k (a - k) (b - k) (c - k) (d - k)) in
      let sum = no_wrap (four_of x y z t + k * 16843009) (four_of a b c d) e (omega (arith, less, four-lt x y z t hx hy hz ht)) in
      fours-same x y z t (a - k) (b - k) (c - k) (d - k) hx hy hz (omega (arith, ha)) (omega (arith, hb)) (omega (arith, hc)) (omega (arith, less, sum))

-- the difference from four '1' has four that are small just where the four are '1' to '4': nothing is borrowed then
module _ (x y z t a b c d : ℕ) (hx : x < 256) (hy : y < 256) (hz : z < 256) (ht : t < 256) (ha : a < 256) (hb : b < 256) (hc : c < 256) (hd : d < 256) (e : (four_of x y z t + ones) % 4294967296 ≡ four_of a b c d) where
  small-in : each_of (λ (n : ℕ). leb n 3) x y z t ≡ true → each_of (between 49 52) a b c d ≡ true
  small-in s =
      let each = each-shown (λ (n : ℕ). leb n 3) x y z t s in
      let lx = leb-true x 3 each.first in
      let ly = leb-true y 3 each.second in
      let lz = leb-true z 3 each.third in
      let lt = leb-true t 3 each.fourth in
      let same = raised 49 x y z t a b c d ha hb hc hd e (omega (arith, lx)) (omega (arith, ly)) (omega (arith, lz)) (omega (arith, lt)) in
      each-made (between 49 52) a b c d
      (between-made 49 52 a (omega (arith, same.first)) (omega (arith, same.first, lx))) (between-made 49 52 b (omega (arith, same.second)) (omega (arith, same.second, ly)))
      (between-made 49 52 c (omega (arith, same.third)) (omega (arith, same.third, lz))) (between-made 49 52 d (omega (arith, same.fourth)) (omega (arith, same.fourth, lt)))

  in_small : each_of (between 49 52) a b c d ≡ true → each_of (λ (n : ℕ). leb n 3) x y z t ≡ true
  in_small s =
      let each = each-shown (between 49 52) a b c d s in
      let same = lowered 49 x y z t a b c d ha hb hc hd e hx hy hz ht (between-low 49 52 a each.first) (between-low 49 52 b each.second) (between-low 49 52 c each.third) (between-low 49 52 d each.fourth) in
      each-made (λ (n : ℕ). leb n 3) x y z t
      (le-leb x 3 (omega (arith, same.first, between-high 49 52 a each.first))) (le-leb y 3 (omega (arith, same.second, between-high 49 52 b each.second)))
      (le-leb z 3 (omega (arith, same.third, between-high 49 52 c each.third))) (le-leb t 3 (omega (arith, same.fourth, between-high 49 52 d each.fourth)))

  row-lanes : in_row (four_of x y z t) ≡ each_of (between 49 52) a b c d
  unfolding in_row
  row-lanes =
      ap (λ (m : ℕ). eqb (bit_and (four_of x y z t) m) 0) (four-times 252)
      ∙ masked-four 252 x y z t (omega arith) hx hy hz ht
      ∙ each_same (λ (n : ℕ). eqb (bit_and n 252) 0) (λ (n : ℕ). leb n 3) x y z t (low-two x hx) (low-two y hy) (low-two z hz) (low-two t ht)
      ∙ same_test _ _ small-in in_small

-- a number of 32 bits is four characters
four-again : (w : ℕ) → w < 4294967296 → w ≡ four_of (w % 256) (w / 256 % 256) (w / 65536 % 256) (w / 16777216)
unfolding four_of
four-again w h = omega arith

pub row_word : (w a b c d : ℕ) → w < 4294967296 → a < 256 → b < 256 → c < 256 → d < 256 → (w + ones) % 4294967296 ≡ four_of a b c d → in_row w ≡ each_of (between 49 52) a b c d
row_word w a b c d h ha hb hc hd e =
    let same = four-again w h in
    ap in_row same
    ∙ row-lanes (w % 256) (w / 256 % 256) (w / 65536 % 256) (w / 16777216) a b c d (omega arith) (omega arith) (omega arith) (omega arith) ha hb hc hd
    (ap (λ (n : ℕ). (n + ones) % 4294967296) (sym same) ∙ e)

-- four that are all 0
pub none-word : (a b c d : ℕ) → eqb (four_of a b c d) 0 ≡ each_of (between 0 0) a b c d
unfolding four_of
none-word a b c d =
    same_test _ _
    (λ e. let n = eqb-true (a + b * 256 + c * 65536 + d * 16777216) 0 e in
    each-made (between 0 0) a b c d (between-made 0 0 a (omega arith) (omega (arith, n))) (between-made 0 0 b (omega arith) (omega (arith, n))) (between-made 0 0 c (omega arith) (omega (arith, n))) (between-made 0 0 d (omega arith) (omega (arith, n))))
    (λ e. let each = each-shown (between 0 0) a b c d e in
    eq-eqb (a + b * 256 + c * 65536 + d * 16777216) 0 (omega (arith, between-high 0 0 a each.first, between-high 0 0 b each.second, between-high 0 0 c each.third, between-high 0 0 d each.fourth)))

-- what is gathered, with what is left, says it of the whole, four at a time
module _ (p : ℕ → Bool) (s : List ℕ) where
  next_one : (j k : ℕ) → j + 1 ≡ k → j < length s → every p (drop j s) ≡ (p (get_or s j 0) && every p (drop k s))
  unfolding every
  next_one j k e h = ap (every p) (left-next j s h) ∙ ap (λ (n : ℕ). p (get_or s j 0) && every p (drop n s)) e

  four-first : (a b c d e : Bool) → (a && (b && (c && (d && e)))) ≡ ((a && (b && (c && d))) && e)
  four-first true true true d e = refl
  four-first true true false d e = refl
  four-first true false c d e = refl
  four-first false b c d e = refl

  pub next-four : (i : ℕ) → i + 4 ≤ length s → every p (drop i s) ≡ (each_of p (get_or s i 0) (get_or s (i + 1) 0) (get_or s (i + 2) 0) (get_or s (i + 3) 0) && every p (drop (i + 4) s))
  next-four i h =
      next_one i (i + 1) refl (omega arith)
      ∙ ap (λ (t : Bool). p (get_or s i 0) && t)
      (next_one (i + 1) (i + 2) (omega arith) (omega arith)
      ∙ ap (λ (t : Bool). p (get_or s (i + 1) 0) && t)
      (next_one (i + 2) (i + 3) (omega arith) (omega arith)
      ∙ ap (λ (t : Bool). p (get_or s (i + 2) 0) && t) (next_one (i + 3) (i + 4) (omega arith) (omega arith))))
      ∙ four-first (p (get_or s i 0)) (p (get_or s (i + 1) 0)) (p (get_or s (i + 2) 0)) (p (get_or s (i + 3) 0)) (every p (drop (i + 4) s))

  pub four-turn : (q : ℕ → Bool) → ((x y : ℕ) → q (bit_or x y) ≡ (q x && q y)) → (i bad w : ℕ) (whole : Bool) → i + 4 ≤ length s
      → q w ≡ each_of p (get_or s i 0) (get_or s (i + 1) 0) (get_or s (i + 2) 0) (get_or s (i + 3) 0) → (q bad && every p (drop i s)) ≡ whole
      → (q (bit_or bad w) && every p (drop (i + 4) s)) ≡ whole
  four-turn q joins i bad w whole h passes e =
      ap (λ (t : Bool). t && every p (drop (i + 4) s)) (joins bad w)
      ∙ and_assoc (q bad) (q w) (every p (drop (i + 4) s))
      ∙ ap (λ (t : Bool). q bad && (t && every p (drop (i + 4) s))) passes
      ∙ ap (λ (t : Bool). q bad && t) (sym (next-four i h))
      ∙ e

pub row-joins : (x y : ℕ) → in_row (bit_or x y) ≡ (in_row x && in_row y)
unfolding in_row
row-joins = masked-both 0xFCFCFCFC

-- a turn over the first of the rows
pub row-turn : (n : ℕ) (s : List ℕ) (i bad w : ℕ) (whole : Bool) → i + 4 ≤ n → n ≤ length s → w < 4294967296
    → get_or s i 0 < 256 → get_or s (i + 1) 0 < 256 → get_or s (i + 2) 0 < 256 → get_or s (i + 3) 0 < 256
    → (w + ones) % 4294967296 ≡ four_of (get_or s i 0) (get_or s (i + 1) 0) (get_or s (i + 2) 0) (get_or s (i + 3) 0)
    → (in_row bad && every (between 49 52) (drop i (take n s))) ≡ whole → (in_row (bit_or bad w) && every (between 49 52) (drop (i + 4) (take n s))) ≡ whole
row-turn n s i bad w whole h l hw ha hb hc hd e inv =
    four-turn (between 49 52) (take n s) in_row row-joins i bad w whole (rw (length-take-le n s l) h)
    (rw (get_or-take n s i 0 (omega arith), get_or-take n s (i + 1) 0 (omega arith), get_or-take n s (i + 2) 0 (omega arith), get_or-take n s (i + 3) 0 (omega arith))
    (row_word w (get_or s i 0) (get_or s (i + 1) 0) (get_or s (i + 2) 0) (get_or s (i + 3) 0) hw ha hb hc hd e)) inv

-- what holds of two parts holds of the whole
every-parts : (p : ℕ → Bool) (n : ℕ) (s : List ℕ) → (every p (take n s) && every p (drop n s)) ≡ every p s
unfolding every
every-parts p zero s = refl
every-parts p (suc n) [] = refl
every-parts p (suc n) (c ∷ s) = and_assoc (p c) (every p (take n s)) (every p (drop n s)) ∙ ap (λ (t : Bool). p c && t) (every-parts p n s)

-- so many rows are those that every edition has, and the last
pub tables-split : (tables : ℕ) (s : List ℕ) → length s ≡ all_rows → 24 ≤ tables → tables ≤ 25
    → (every (between 49 52) (take first_rows s) && last_good (eqb tables 25) (drop first_rows s)) ≡ tables_good tables s
unfolding tables_good last_good every
tables-split tables s l lo hi =
    ⊎_elim (λ h. let e : tables ≡ 24 = omega arith in rw (e, eq-eqb (length s) 600 l))
    (λ h.
    let e : tables ≡ 25 = omega arith in
    rw (e, eq-eqb (length s) 600 l, take_all 600 s (omega (arith, l)), drop_of_length-le s {i = 600} (omega (arith, l)))
    (every-parts (between 49 52) first_rows s ∙ sym (and-true (every (between 49 52) s)))) (le-or-lt tables 24)

-- four without the first so many are nothing where each of the others is 0
part-list : (a b c d used : ℕ) → used < 4 → a < 256 → b < 256 → c < 256 → eqb (four_of a b c d / 2 ^ (8 * used)) 0 ≡ every (between 0 0) (drop used (a ∷ b ∷ c ∷ d ∷ []))
unfolding every between four_of
part-list a b c d zero h ha hb hc =
    let e : four_of a b c d / 1 ≡ four_of a b c d = omega arith in
    ap (λ (n : ℕ). eqb n 0) e ∙ none-word a b c d ∙ ap (λ (t : Bool). between 0 0 a && (between 0 0 b && (between 0 0 c && t))) (sym (and-true (between 0 0 d)))
part-list a b c d (suc zero) h ha hb hc =
    let e : four_of a b c d / 256 ≡ four_of b c d 0 = omega (arith, ha) in
    ap (λ (n : ℕ). eqb n 0) e ∙ none-word b c d 0
part-list a b c d (suc (suc zero)) h ha hb hc =
    let e : four_of a b c d / 65536 ≡ four_of c d 0 0 = omega (arith, ha, hb) in
    ap (λ (n : ℕ). eqb n 0) e ∙ none-word c d 0 0
part-list a b c d (suc (suc (suc zero))) h ha hb hc =
    let e : four_of a b c d / 16777216 ≡ four_of d 0 0 0 = omega (arith, ha, hb, hc) in
    ap (λ (n : ℕ). eqb n 0) e ∙ none-word d 0 0 0
part-list a b c d (suc (suc (suc (suc used)))) h ha hb hc = absurd (omega arith)

pub part_none : (a b c d used r f : ℕ) → used < 4 → a < 256 → b < 256 → c < 256 → f ≡ four_of a b c d → r ≡ f / 2 ^ (8 * used) → eqb r 0 ≡ every (between 0 0) (drop used (a ∷ b ∷ c ∷ d ∷ []))
part_none a b c d used r f h ha hb hc e k = ap (λ (n : ℕ). eqb n 0) (k ∙ ap (λ (n : ℕ). n / 2 ^ (8 * used)) e) ∙ part-list a b c d used h ha hb hc

-- a character of seven bits
seven-bits : (x : ℕ) → x < 256 → eqb (bit_and x 128) 0 ≡ between 0 127 x
seven-bits x h =
    ap (λ (k : ℕ). eqb k 0) (and_high x 1 7 ∙ ap (λ (k : ℕ). k * 128) (mod-eq_of_lt {n = x / 128} {m = 2} (omega arith)))
    ∙ same_test _ _ (λ e. between-made 0 127 x (omega arith) (omega (arith, eqb-true (x / 128 * 128) 0 e))) (λ e. eq-eqb (x / 128 * 128) 0 (omega (arith, between-high 0 127 x e)))

pub seven-word : (a b c d : ℕ) → a < 256 → b < 256 → c < 256 → d < 256 → in_seven (four_of a b c d) ≡ each_of (between 0 127) a b c d
unfolding in_seven
seven-word a b c d ha hb hc hd =
    ap (λ (m : ℕ). eqb (bit_and (four_of a b c d) m) 0) (four-times 128)
    ∙ masked-four 128 a b c d (omega arith) ha hb hc hd
    ∙ each_same (λ (n : ℕ). eqb (bit_and n 128) 0) (between 0 127) a b c d (seven-bits a ha) (seven-bits b hb) (seven-bits c hc) (seven-bits d hd)

pub seven-joins : (x y : ℕ) → in_seven (bit_or x y) ≡ (in_seven x && in_seven y)
unfolding in_seven
seven-joins = masked-both 0x80808080

-- how far four are above '0', and that with what '9' lacks to 128, have no eighth bit just where the four are digits
module _ (x y z t p q r u a b c d : ℕ) (hx : x < 256) (hy : y < 256) (hz : z < 256) (ht : t < 256) (hp : p < 256) (hq : q < 256) (hr : r < 256) (hu : u < 256) (ha : a < 256) (hb : b < 256) (hc : c < 256) (hd : d < 256)
    (e : (four_of x y z t + 48 * 16843009) % 4294967296 ≡ four_of a b c d) (f : (four_of x y z t + 118 * 16843009) % 4294967296 ≡ four_of p q r u) where
  digits_in : (each_of (between 0 127) x y z t && each_of (between 0 127) p q r u) ≡ true → each_of is_digit a b c d ≡ true
  unfolding is_digit
  digits_in s =
      let low = each-shown (between 0 127) x y z t (and_left _ (each_of (between 0 127) p q r u) s) in
      let high = each-shown (between 0 127) p q r u (and_right (each_of (between 0 127) x y z t) _ s) in
      let lx = between-high 0 127 x low.first in
      let ly = between-high 0 127 y low.second in
      let lz = between-high 0 127 z low.third in
      let lt = between-high 0 127 t low.fourth in
      let same = raised 48 x y z t a b c d ha hb hc hd e (omega (arith, lx)) (omega (arith, ly)) (omega (arith, lz)) (omega (arith, lt)) in
      let more = raised 118 x y z t p q r u hp hq hr hu f (omega (arith, lx)) (omega (arith, ly)) (omega (arith, lz)) (omega (arith, lt)) in
      each-made is_digit a b c d
      (between-made 48 57 a (omega (arith, same.first)) (omega (arith, same.first, more.first, between-high 0 127 p high.first))) (between-made 48 57 b (omega (arith, same.second)) (omega (arith, same.second, more.second, between-high 0 127 q high.second)))
      (between-made 48 57 c (omega (arith, same.third)) (omega (arith, same.third, more.third, between-high 0 127 r high.third))) (between-made 48 57 d (omega (arith, same.fourth)) (omega (arith, same.fourth, more.fourth, between-high 0 127 u high.fourth)))

  in-digits : each_of is_digit a b c d ≡ true → (each_of (between 0 127) x y z t && each_of (between 0 127) p q r u) ≡ true
  unfolding is_digit
  in-digits s =
      let each = each-shown is_digit a b c d s in
      let same = lowered 48 x y z t a b c d ha hb hc hd e hx hy hz ht (between-low 48 57 a each.first) (between-low 48 57 b each.second) (between-low 48 57 c each.third) (between-low 48 57 d each.fourth) in
      let lx : x ≤ 9 = omega (arith, same.first, between-high 48 57 a each.first) in
      let ly : y ≤ 9 = omega (arith, same.second, between-high 48 57 b each.second) in
      let lz : z ≤ 9 = omega (arith, same.third, between-high 48 57 c each.third) in
      let lt : t ≤ 9 = omega (arith, same.fourth, between-high 48 57 d each.fourth) in
      let more = raised 118 x y z t p q r u hp hq hr hu f (omega (arith, lx)) (omega (arith, ly)) (omega (arith, lz)) (omega (arith, lt)) in
      and_both _ _
      (each-made (between 0 127) x y z t (between-made 0 127 x (omega arith) (omega (arith, lx))) (between-made 0 127 y (omega arith) (omega (arith, ly))) (between-made 0 127 z (omega arith) (omega (arith, lz))) (between-made 0 127 t (omega arith) (omega (arith, lt))))
      (each-made (between 0 127) p q r u (between-made 0 127 p (omega arith) (omega (arith, more.first, lx))) (between-made 0 127 q (omega arith) (omega (arith, more.second, ly))) (between-made 0 127 r (omega arith) (omega (arith, more.third, lz))) (between-made 0 127 u (omega arith) (omega (arith, more.fourth, lt))))

  digits-lanes : in_seven (bit_or (four_of x y z t) (four_of p q r u)) ≡ each_of is_digit a b c d
  digits-lanes =
      seven-joins (four_of x y z t) (four_of p q r u)
      ∙ ap₂ (λ (m n : Bool). m && n) (seven-word x y z t hx hy hz ht) (seven-word p q r u hp hq hr hu)
      ∙ same_test _ _ digits_in in-digits

pub digits-word : (v w a b c d : ℕ) → v < 4294967296 → w < 4294967296 → a < 256 → b < 256 → c < 256 → d < 256
    → (v + 0x30303030) % 4294967296 ≡ four_of a b c d → (v + 0x76767676) % 4294967296 ≡ w → in_seven (bit_or v w) ≡ each_of is_digit a b c d
digits-word v w a b c d hv hw ha hb hc hd e f =
    let same = four-again v hv in
    let more = four-again w hw in
    ap₂ (λ (m n : ℕ). in_seven (bit_or m n)) same more
    ∙ digits-lanes (v % 256) (v / 256 % 256) (v / 65536 % 256) (v / 16777216) (w % 256) (w / 256 % 256) (w / 65536 % 256) (w / 16777216) a b c d
    (omega arith) (omega arith) (omega arith) (omega arith) (omega arith) (omega arith) (omega arith) (omega arith) ha hb hc hd
    (ap (λ (n : ℕ). (n + 0x30303030) % 4294967296) (sym same) ∙ e) (ap (λ (n : ℕ). (n + 0x76767676) % 4294967296) (sym same) ∙ f ∙ more)

-- ten characters are three times four, of which two overlap, and eight are two times four
overlap : (a b c d e f : Bool) → ((a && (b && (c && d))) && (c && (d && (e && f)))) ≡ ((a && (b && (c && d))) && (e && (f && true)))
overlap true true true true e f = ap (λ (n : Bool). e && n) (sym (and-true f))
overlap true true true false e f = refl
overlap true true false d e f = refl
overlap true false c d e f = refl
overlap false b c d e f = refl

module _ (p : ℕ → Bool) (s : List ℕ) where
  abbrev from : ℕ → Bool
  from i = each_of p (get_or s i 0) (get_or s (i + 1) 0) (get_or s (i + 2) 0) (get_or s (i + 3) 0)

  pub of-ten : length s ≡ 10 → (from 0 && (from 4 && from 6)) ≡ every p s
  unfolding every
  of-ten n =
      ap (λ (t : Bool). from 0 && t)
      (overlap (p (get_or s 4 0)) (p (get_or s 5 0)) (p (get_or s 6 0)) (p (get_or s 7 0)) (p (get_or s 8 0)) (p (get_or s 9 0))
      ∙ ap (λ (l : List ℕ). from 4 && every p l) (sym (left-next 8 s (omega (arith, n)) ∙ ap (λ (l : List ℕ). get_or s 8 0 ∷ l) (left-next 9 s (omega (arith, n)) ∙ ap (λ (l : List ℕ). get_or s 9 0 ∷ l) (drop_of_length-le s {i = 10} (omega (arith, n)))))))
      ∙ ap (λ (t : Bool). from 0 && t) (sym (next-four p s 4 (omega (arith, n))))
      ∙ sym (next-four p s 0 (omega (arith, n)))

  pub of-eight : length s ≡ 8 → (from 0 && from 4) ≡ every p s
  unfolding every
  of-eight n =
      ap (λ (t : Bool). from 0 && t) (sym (next-four p s 4 (omega (arith, n)) ∙ ap (λ (l : List ℕ). from 4 && every p l) (drop_of_length-le s {i = 8} (omega (arith, n))) ∙ and-true (from 4)))
      ∙ sym (next-four p s 0 (omega (arith, n)))

-- of the words behind that of the count, those from a place on
unfoldable pub behind_from : ℕ → ℕ → List ℕ → Bool
behind_from count i s = cond (ltb count i) (every (between 0 0) (drop i s)) (every (between 0 0) (drop (count - count % 4 + 4) s))

pub behind-start : (count : ℕ) (s : List ℕ) → behind_from count 0 s ≡ every (between 0 0) (drop (count - count % 4 + 4) s)
unfolding behind_from
behind-start count s = rw (le-ltb count 0 (omega arith))

pub behind-turn : (count : ℕ) (s : List ℕ) (i behind w : ℕ) (whole : Bool) → i % 4 ≡ 0 → i + 4 ≤ length s
    → eqb w 0 ≡ each_of (between 0 0) (get_or s i 0) (get_or s (i + 1) 0) (get_or s (i + 2) 0) (get_or s (i + 3) 0)
    → (eqb behind 0 && behind_from count i s) ≡ whole → (eqb (bit_or behind (cond (ltb count i) w 0)) 0 && behind_from count (i + 4) s) ≡ whole
unfolding behind_from
behind-turn count s i behind w whole m h passes e =
    ⊎_elim
    (λ l. ⊎_elim
    (λ k. rw (le-ltb count i l, or_zero_r behind, le-ltb count (i + 4) k) (rw (le-ltb count i l) at e))
    (λ k. let same : i + 4 ≡ count - count % 4 + 4 = omega arith in
    rw (le-ltb count i l, or_zero_r behind, lt-ltb count (i + 4) k, same) (rw (le-ltb count i l) at e)) (le-or-lt (i + 4) count))
    (λ l. rw (lt-ltb count i l, lt-ltb count (i + 4) (omega arith)) (four-turn (between 0 0) s (λ (n : ℕ). eqb n 0) none-of-both i behind w whole h passes (rw (lt-ltb count i l) at e))) (le-or-lt i count)

pub behind-end : (count : ℕ) (s : List ℕ) (i : ℕ) → length s ≤ i → count < i → behind_from count i s ≡ true
unfolding behind_from every
behind-end count s i h l = rw (lt-ltb count i l, drop_of_length-le s {i = i} h)

-- four neighbours, as a list
pub take-four : (s : List ℕ) (i : ℕ) → i + 4 ≤ length s → take 4 (drop i s) ≡ get_or s i 0 ∷ get_or s (i + 1) 0 ∷ get_or s (i + 2) 0 ∷ get_or s (i + 3) 0 ∷ []
take-four s i h =
    ap (take 4) (next i (i + 1) refl (omega arith))
    ∙ ap (λ (l : List ℕ). get_or s i 0 ∷ take 3 l) (next (i + 1) (i + 2) (omega arith) (omega arith))
    ∙ ap (λ (l : List ℕ). get_or s i 0 ∷ get_or s (i + 1) 0 ∷ take 2 l) (next (i + 2) (i + 3) (omega arith) (omega arith))
    ∙ ap (λ (l : List ℕ). get_or s i 0 ∷ get_or s (i + 1) 0 ∷ get_or s (i + 2) 0 ∷ take 1 l) (next (i + 3) (i + 4) (omega arith) (omega arith))
  where
    next : (j k : ℕ) → j + 1 ≡ k → j < length s → drop j s ≡ get_or s j 0 ∷ drop k s
    next j k e l = left-next j s l ∙ ap (λ (n : ℕ). get_or s j 0 ∷ drop n s) e

-- from a place on: up to another, and from that one on
drop-parts : (p : ℕ → Bool) (k n : ℕ) (s : List ℕ) → k ≤ n → every p (drop k s) ≡ (every p (drop k (take n s)) && every p (drop n s))
unfolding every
drop-parts p zero n s h = sym (every-parts p n s)
drop-parts p (suc k) zero s h = absurd (omega arith)
drop-parts p (suc k) (suc n) [] h = refl
drop-parts p (suc k) (suc n) (c ∷ s) h = drop-parts p k n s (omega arith)

-- the word of the count, without what is held of it, and the words behind it
pub held-split : (s : List ℕ) (count : ℕ) → length s ≡ held_places
    → ((every (between 0 127) s && every (between 0 0) (drop (count - count % 4 + 4) s)) && every (between 0 0) (drop (count % 4) (take 4 (drop (count - count % 4) s)))) ≡ held_good s count
unfolding held_good
held-split s count l =
    let used = count % 4 in
    let at = count - count % 4 in
    let split : drop count s ≡ drop used (drop at s) = ap (λ (n : ℕ). drop n s) {x = count} {y = at + used} (omega arith) ∙ sym (drop-drop used at s) in
    rw (eq-eqb (length s) held_places l, split, drop-parts (between 0 0) used 4 (drop at s) (omega arith), drop-drop 4 at s)
    (turned (every (between 0 127) s) (every (between 0 0) (drop (at + 4) s)) (every (between 0 0) (drop used (take 4 (drop at s)))))
  where
    turned : (a b c : Bool) → ((a && b) && c) ≡ (a && (c && b))
    turned false b c = refl
    turned true true true = refl
    turned true true false = refl
    turned true false true = refl
    turned true false false = refl
