-- A refusal's number and place leave one refusal. Assumes nothing.
use mathlib.Core.Path.{◌≡◌, refl, ap}
use Prim.Native.Nat.{ℕ}
use native.Mathlib.Omega.{arith}
use Rattle.blocks.specs.declared.Refusal.{Refusal as BlockRefusal}
use Rattle.blocks.specs.declared.Refusal.TheVariants.{NoBlock, WrongBcc, Damaged, Short}
use Rattle.showing.specs.declared.Refusal.{Refusal}
use Rattle.showing.specs.declared.Refusal.TheVariants.{Block, Malformed, Missing}
use Rattle.showing.specs.Refusals.{refusal_number, refusal_place}

pub one-refusal : (r q : Refusal) → refusal_number r ≡ refusal_number q → refusal_place r ≡ refusal_place q → r ≡ q
one-refusal (Block NoBlock) (Block NoBlock) n p = refl
one-refusal (Block NoBlock) (Block WrongBcc) n p = absurd (omega (arith, n))
one-refusal (Block NoBlock) (Block (Damaged y)) n p = absurd (omega (arith, n))
one-refusal (Block NoBlock) (Block Short) n p = absurd (omega (arith, n))
one-refusal (Block NoBlock) (Malformed y) n p = absurd (omega (arith, n))
one-refusal (Block NoBlock) Missing n p = absurd (omega (arith, n))
one-refusal (Block WrongBcc) (Block NoBlock) n p = absurd (omega (arith, n))
one-refusal (Block WrongBcc) (Block WrongBcc) n p = refl
one-refusal (Block WrongBcc) (Block (Damaged y)) n p = absurd (omega (arith, n))
one-refusal (Block WrongBcc) (Block Short) n p = absurd (omega (arith, n))
one-refusal (Block WrongBcc) (Malformed y) n p = absurd (omega (arith, n))
one-refusal (Block WrongBcc) Missing n p = absurd (omega (arith, n))
one-refusal (Block (Damaged x)) (Block NoBlock) n p = absurd (omega (arith, n))
one-refusal (Block (Damaged x)) (Block WrongBcc) n p = absurd (omega (arith, n))
one-refusal (Block (Damaged x)) (Block (Damaged y)) n p = ap (λ (k : ℕ). Block (Damaged k)) p
one-refusal (Block (Damaged x)) (Block Short) n p = absurd (omega (arith, n))
one-refusal (Block (Damaged x)) (Malformed y) n p = absurd (omega (arith, n))
one-refusal (Block (Damaged x)) Missing n p = absurd (omega (arith, n))
one-refusal (Block Short) (Block NoBlock) n p = absurd (omega (arith, n))
one-refusal (Block Short) (Block WrongBcc) n p = absurd (omega (arith, n))
one-refusal (Block Short) (Block (Damaged y)) n p = absurd (omega (arith, n))
one-refusal (Block Short) (Block Short) n p = refl
one-refusal (Block Short) (Malformed y) n p = absurd (omega (arith, n))
one-refusal (Block Short) Missing n p = absurd (omega (arith, n))
one-refusal (Malformed x) (Block NoBlock) n p = absurd (omega (arith, n))
one-refusal (Malformed x) (Block WrongBcc) n p = absurd (omega (arith, n))
one-refusal (Malformed x) (Block (Damaged y)) n p = absurd (omega (arith, n))
one-refusal (Malformed x) (Block Short) n p = absurd (omega (arith, n))
one-refusal (Malformed x) (Malformed y) n p = ap Malformed p
one-refusal (Malformed x) Missing n p = absurd (omega (arith, n))
one-refusal Missing (Block NoBlock) n p = absurd (omega (arith, n))
one-refusal Missing (Block WrongBcc) n p = absurd (omega (arith, n))
one-refusal Missing (Block (Damaged y)) n p = absurd (omega (arith, n))
one-refusal Missing (Block Short) n p = absurd (omega (arith, n))
one-refusal Missing (Malformed y) n p = absurd (omega (arith, n))
one-refusal Missing Missing n p = refl
