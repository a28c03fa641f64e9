-- `values::writing::put_counter` meets its contract: each family's places are those of its digits and decimals. Assumes nothing.
use mathlib.Core.Path.{◌≡◌, ap, ◌∙◌}
use mathlib.Core.List.{List}
use Prim.Native.Nat.{ℕ, ◌+◌, ◌-◌, ◌≤◌}
use native.Mathlib.Omega.{arith}
use borrow.Author.Tests.{eq-eqb, ne_eqb}
use lib.ListN.{length}
use Rattle.text.specs.Decimal.{decimal}
use Rattle.text.specs.Layout.{layout_text}
use Rattle.text.specs.Writing.{stored}
use Rattle.text.proofs.Decimal.{length-decimal}
use Rattle.values.specs.Family.{counter_digits, counter_decimals}
use Rattle.values.specs.Texts.{pointed, counter_text, energy_text}
use Rattle.values.proofs.Families.{before-point, after-point}
use Rattle.values.proofs.writing.put_counter.Goals as goal

-- so many of a number's nine digits, so many of them behind the point
shows : (all decimals n : ℕ) → decimals ≤ all → all ≤ 9 → pointed (9 - all) (9 - decimals) (decimal 9 n) ≡ counter_text all decimals n
unfolding pointed counter_text layout_text
shows all decimals n low high = rw (before-point 9 all decimals n low high, after-point 9 decimals n (omega arith))

-- the first family shows nine digits, every other eight
first-digits : (family : ℕ) → family ≡ 0 → counter_digits family ≡ 9
unfolding counter_digits
first-digits family e = rw (eq-eqb family 0 e)

other-digits : (family : ℕ) → (family ≡ 0 → ⊥) → counter_digits family ≡ 8
unfolding counter_digits
other-digits family e = rw (ne_eqb family 0 e)

module _ (family n all decimals at r : ℕ) (nine buf end : List ℕ) where
  told : counter_digits family ≡ all → counter_decimals family ≡ decimals → decimals ≤ all → all ≤ 9 → nine ≡ decimal 9 n
      → r ≡ at + (9 - (9 - all) + 5) → end ≡ stored buf at (pointed (9 - all) (9 - decimals) nine)
      → (r ≡ at + (counter_digits family + 5)) × (end ≡ stored buf at (energy_text family n))
  unfolding energy_text
  told da dd low high dn next held = rw (da, dd) (omega (arith, next, high), held ∙ ap (stored buf at) (rw dn (shows all decimals n low high)))

long : (n : ℕ) (nine : List ℕ) → nine ≡ decimal 9 n → length nine ≡ 9
long n nine e = ap length e ∙ length-decimal 9 n

pub put_pointed-requires : goal.put_pointed-requires
put_pointed-requires c =
    ((long _ _ c.nine_digits-nine.ensures, (omega arith, omega arith)), omega (arith, c.requires, first-digits c.args.family c.in-0.is))

pub returns-in-0 : goal.returns-in-0
unfolding counter_decimals
returns-in-0 c =
    let a = c.args in
    let put = c.put_pointed.ensures in
    let done = told a.family a.n 9 3 a.at _ _ a.buf.now _ (first-digits a.family c.in-0.is) (rw c.in-0.is)
    (omega arith) (omega arith) c.nine_digits-nine.ensures put.next put.held in
    record { next = done.0; held = done.1 }

pub put_pointed-requires-in-2 : goal.put_pointed-requires-in-2
put_pointed-requires-in-2 c =
    ((long _ _ c.nine_digits-nine.ensures, (omega arith, omega arith)), omega (arith, c.requires, other-digits c.args.family (λ e. omega (arith, e))))

pub returns-in-2 : goal.returns-in-2
unfolding counter_decimals
returns-in-2 c =
    let a = c.args in
    let put = c.put_pointed-in-2.ensures in
    let done = told a.family a.n 8 2 a.at _ _ a.buf.now _ (other-digits a.family (λ e. omega (arith, e))) (rw c.in-2.is)
    (omega arith) (omega arith) c.nine_digits-nine.ensures put.next put.held in
    record { next = done.0; held = done.1 }

pub put_pointed-requires-in-3 : goal.put_pointed-requires-in-3
put_pointed-requires-in-3 c =
    ((long _ _ c.nine_digits-nine.ensures, (omega arith, omega arith)), omega (arith, c.requires, other-digits c.args.family (λ e. omega (arith, e))))

pub returns-in-3 : goal.returns-in-3
unfolding counter_decimals
returns-in-3 c =
    let a = c.args in
    let put = c.put_pointed-in-3.ensures in
    let done = told a.family a.n 8 3 a.at _ _ a.buf.now _ (other-digits a.family (λ e. omega (arith, e))) (rw c.in-3.is)
    (omega arith) (omega arith) c.nine_digits-nine.ensures put.next put.held in
    record { next = done.0; held = done.1 }

pub put_pointed-requires-in_default : goal.put_pointed-requires-in_default
put_pointed-requires-in_default c =
    ((long _ _ c.nine_digits-nine.ensures, (omega arith, omega arith)), omega (arith, c.requires, other-digits c.args.family (λ e. omega (arith, e))))

pub returns-in_default : goal.returns-in_default
unfolding counter_decimals
returns-in_default c =
    let a = c.args in
    let put = c.put_pointed-in_default.ensures in
    let done = told a.family a.n 8 4 a.at _ _ a.buf.now _ (other-digits a.family (λ e. omega (arith, e))) (rw (ne_eqb a.family 0 (λ e. omega (arith, e)), ne_eqb a.family 2 (λ e. omega (arith, e)), ne_eqb a.family 3 (λ e. omega (arith, e))))
    (omega arith) (omega arith) c.nine_digits-nine.ensures put.next put.held in
    record { next = done.0; held = done.1 }
