-- `state::total_of` meets its contract: the sum of four that are good fits 32 bits, and is below four ends. Assumes nothing.
use Rattle.std.proofs.Common.{◌≡◌, ℕ, ◌+◌, ◌%◌, List, [], ◌∷◌, length, get_or, ap, ◌∙◌, mod-lt, arith, rules}
use native.Mathlib.Nat.{mod-mod_of_dvd, dvd-mul_left}
use Rattle.state.specs.WellFormed.{sum_of, total}
use Rattle.state.proofs.Parts.{zones-below}
use Rattle.state.proofs.total_of.Goals as goal

-- four in a row, added up
four-added : (s : List ℕ) → length s ≡ 4 → ((get_or s 0 0 + get_or s 1 0) + get_or s 2 0) + get_or s 3 0 ≡ sum_of s
unfolding sum_of
four-added [] n = absurd (omega arith)
four-added (a ∷ []) n = absurd (omega arith)
four-added (a ∷ b ∷ []) n = absurd (omega arith)
four-added (a ∷ b ∷ c ∷ []) n = absurd (omega arith)
four-added (a ∷ b ∷ c ∷ d ∷ []) n = omega arith
four-added (a ∷ b ∷ c ∷ d ∷ e ∷ s) n = absurd (omega arith)

pub overflow_add-sum : goal.overflow_add-sum
overflow_add-sum c =
    let small = zones-below c.args.end c.args.c.zones c.requires.0.0 c.requires.1 in
    record { fits = omega (arith, c.requires.0.1, small 0, small 1) }

pub overflow_add-sum-2 : goal.overflow_add-sum-2
overflow_add-sum-2 c =
    let small = zones-below c.args.end c.args.c.zones c.requires.0.0 c.requires.1 in
    record { fits = omega (arith, c.requires.0.1, small 0, small 1, small 2) }

pub overflow_add-sum-3 : goal.overflow_add-sum-3
overflow_add-sum-3 c =
    let small = zones-below c.args.end c.args.c.zones c.requires.0.0 c.requires.1 in
    record { fits = omega (arith, c.requires.0.1, small 0, small 1, small 2, small 3) }

pub overflow_mul-end : goal.overflow_mul-end
overflow_mul-end c = record { fits = omega (arith, c.requires.0.1) }

pub rolled-requires : goal.rolled-requires
rolled-requires c =
    let small = zones-below c.args.end c.args.c.zones c.requires.0.0 c.requires.1 in
    omega (arith, small 0, small 1, small 2, small 3)

pub rolled-requires-2 : goal.rolled-requires-2
rolled-requires-2 c =
    rw c.rolled.ensures (mod-lt _ (omega (arith, c.requires.0.0)))

pub returns : goal.returns
unfolding total
returns c =
    let a = c.args in
    let four : length a.c.zones ≡ 4 = search rules in
    rw (c.rolled-2.ensures, c.rolled.ensures) (mod-mod_of_dvd a.end _ (dvd-mul_left a.end 2) ∙ ap (λ (n : ℕ). n % a.end) (four-added a.c.zones four))
