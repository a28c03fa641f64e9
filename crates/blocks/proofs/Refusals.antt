-- A refusal has another number than 1, and one of a block no place. Assumes nothing.
use mathlib.Core.Path.{◌≡◌, refl, sym, ap}
use mathlib.Core.Bool.{Bool, true, false, cond}
use mathlib.Core.List.{List}
use Prim.Native.Nat.{ℕ, ◌-◌}
use native.Mathlib.Omega.{arith}
use Rattle.std.proofs.Common.{Err}
use lib.ListN.{length}
use Rattle.blocks.specs.declared.Refusal.{Refusal}
use Rattle.blocks.specs.declared.Refusal.TheVariants.{NoBlock, WrongBcc, Damaged, Short}
use Rattle.blocks.specs.Refusals.{number_of, place_of}
use Rattle.blocks.specs.Parts.{PartAt, part_told, is_block, bcc_fits, part_of, Within}

pub not-done : (e : Refusal) → number_of e ≡ 1 → ⊥
not-done NoBlock h = omega (arith, h)
not-done WrongBcc h = omega (arith, h)
not-done (Damaged place) h = omega (arith, h)
not-done Short h = omega (arith, h)

no-damage : (s : List ℕ) → (part_of s).number ≡ 24 → ⊥
unfolding part_of
no-damage s = by-case (is_block s) (bcc_fits s)
  where
    by-case : (block fits : Bool)
        → (cond {A = PartAt} block (cond {A = PartAt} fits (record { number = 1; start = 1; length = length s - 3 }) (record { number = 23; start = 0; length = 0 })) (record { number = 22; start = 0; length = 0 })).number ≡ 24 → ⊥
    by-case true true h = omega (arith, h)
    by-case true false h = omega (arith, h)
    by-case false fits h = omega (arith, h)

pub placeless : (s : List ℕ) (e : Refusal) → Within s (part_told (Err e)) → place_of e ≡ 0
placeless s NoBlock w = refl
placeless s WrongBcc w = refl
placeless s (Damaged place) w = absurd (no-damage s (sym (ap (λ (p : PartAt). p.number) w.is)))
placeless s Short w = refl
