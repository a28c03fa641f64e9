-- Characters of one kind that are also of another, and what that says of a run and of a form's text.
-- A kind that ends below 128 is compared by a test computed at every character. Assumes nothing.
use mathlib.Core.Path.{◌≡◌, refl}
use mathlib.Core.Bool.{Bool, true, false, not, ◌&&◌, ◌||◌}
use mathlib.Core.List.{List, [], ◌∷◌}
use Prim.Native.Nat.{ℕ, ◌<◌, ◌≤◌}
use native.Mathlib.Omega.{arith}
use borrow.Author.Tests.{leb-true, eqb-true}
use lib.Dec.{eqb, leb}
use Rattle.line.specs.Runs.{every}
use Rattle.line.proofs.Runs.{and_left, and_right, every_append, all_below, below_all, every-weaker}
use Rattle.text.specs.Classes.{between, is_digit, is_letter, is_printable, is_address, is_value}
use Rattle.text.specs.Layout.{Piece, digits, fixed, layout_text}
use Rattle.text.specs.Decimal.{decimal}
use Rattle.text.proofs.Decimal.{decimal-digits, digit-high}
use Rattle.values.specs.Registers.{is_account_character}

-- every character of one kind is of the other
abbrev pub Within : (ℕ → Bool) → (ℕ → Bool) → Type 0
Within p q = (c : ℕ) → p c ≡ true → q c ≡ true

or_cases : (a b : Bool) {X : Type 0} → (a || b) ≡ true → (a ≡ true → X) → (b ≡ true → X) → X
or_cases true b e f g = f refl
or_cases false b e f g = g e

-- a computed test, for kinds that end below 128
pub within : (p q : ℕ → Bool) → all_below 128 (λ c. not (p c) || q c) ≡ true → ((c : ℕ) → p c ≡ true → c < 128) → Within p q
within p q e low c h = so (p c) (q c) (below_all 128 (λ c. not (p c) || q c) e c (low c h)) h
  where
    so : (a b : Bool) → (not a || b) ≡ true → a ≡ true → b ≡ true
    so true b e h = e
    so false b e h = absurd (let z : ◌≡◌ {A = ℕ} 0 1 = cc in omega arith)

between-high : (lo hi c : ℕ) → between lo hi c ≡ true → c ≤ hi
unfolding between
between-high lo hi c h = leb-true c hi (and_right (leb lo c) (leb c hi) h)

digit_low : (c : ℕ) → is_digit c ≡ true → c < 128
digit_low c h = omega (arith, digit-high c h)

letter-low : (c : ℕ) → (between 65 90 c || between 97 122 c) ≡ true → c < 128
letter-low c h =
    or_cases (between 65 90 c) (between 97 122 c) h (λ k. omega (arith, between-high 65 90 c k)) (λ k. omega (arith, between-high 97 122 c k))

account-low : (c : ℕ) → is_account_character c ≡ true → c < 128
unfolding is_account_character is_letter
account-low c h =
    or_cases ((between 65 90 c || between 97 122 c) || is_digit c) (eqb c 32 || eqb c 95) h
    (λ k. or_cases (between 65 90 c || between 97 122 c) (is_digit c) k (letter-low c) (digit_low c))
    (λ k. or_cases (eqb c 32) (eqb c 95) k (λ l. omega (arith, eqb-true c 32 l)) (λ l. omega (arith, eqb-true c 95 l)))

value_low : (c : ℕ) → is_value c ≡ true → c < 128
unfolding is_value is_printable
value_low c h = omega (arith, between-high 32 126 c (and_left (between 32 126 c) _ h))

address-low : (c : ℕ) → is_address c ≡ true → c < 128
unfolding is_address is_letter
address-low c h =
    or_cases ((between 65 90 c || between 97 122 c) || is_digit c) (eqb c 46 || eqb c 42) h
    (λ k. or_cases (between 65 90 c || between 97 122 c) (is_digit c) k (letter-low c) (digit_low c))
    (λ k. or_cases (eqb c 46) (eqb c 42) k (λ l. omega (arith, eqb-true c 46 l)) (λ l. omega (arith, eqb-true c 42 l)))

pub digit-shown : Within is_digit is_value
unfolding is_digit between is_value is_printable
digit-shown = within is_digit is_value refl digit_low

pub digit-address : Within is_digit is_address
unfolding is_digit between is_address is_letter
digit-address = within is_digit is_address refl digit_low

pub account-shown : Within is_account_character is_value
unfolding is_account_character is_letter is_digit between is_value is_printable
account-shown = within is_account_character is_value refl account-low

pub row-shown : Within (between 49 52) is_value
unfolding between is_value is_printable
row-shown = within (between 49 52) is_value refl (λ c h. omega (arith, between-high 49 52 c h))

-- a line's characters: printable, CR and LF
pub value_line : Within is_value (between 10 126)
unfolding is_value is_printable between
value_line = within is_value (between 10 126) refl value_low

pub address_line : Within is_address (between 10 126)
unfolding is_address is_letter is_digit between
address_line = within is_address (between 10 126) refl address-low

-- the fixed pieces of a form are of a kind
abbrev pub fixed_all : (ℕ → Bool) → List Piece → Bool
fixed_all p [] = true
fixed_all p (fixed t ∷ ps) = every p t && fixed_all p ps
fixed_all p (digits w ∷ ps) = fixed_all p ps

pub layout-within : (p : ℕ → Bool) → Within is_digit p → (ps : List Piece) (ns : List ℕ) → fixed_all p ps ≡ true → every p (layout_text ps ns) ≡ true
unfolding layout_text
layout-within p w [] ns h = unfold every in refl
layout-within p w (fixed t ∷ ps) ns h =
    every_append p t (layout_text ps ns) (and_left (every p t) (fixed_all p ps) h) (layout-within p w ps ns (and_right (every p t) (fixed_all p ps) h))
layout-within p w (digits k ∷ ps) [] h = unfold every in refl
layout-within p w (digits k ∷ ps) (n ∷ ns) h =
    every_append p (decimal k n) (layout_text ps ns) (every-weaker is_digit p w (decimal k n) (decimal-digits k n)) (layout-within p w ps ns h)
