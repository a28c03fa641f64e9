-- `set_after` meets its contract: what is left to read from the place reached ends where all of it from the start ends. Assumes nothing.
use mathlib.Core.Path.{◌≡◌, sym, ap, ◌∙◌}
use Prim.Native.Nat.{ℕ, ◌+◌, ◌-◌}
use native.Mathlib.Omega.{arith}
use Rattle.reading.specs.Sets.{SetRead, set_told, set_read}
use Rattle.reading.specs.Whole.{place_after}
use Rattle.reader.proofs.Staying.{place-stays, place-turn, reached}
use Rattle.reader.proofs.set_after.Goals as goal

pub returns-in-Ok-None : goal.returns-in-Ok-None
returns-in-Ok-None c =
    let s = c.args.«data».now in
    let at = c.loop-read.at in
    let e = rw c.in-Ok-None.field-0-is at c.in-Ok-None.ensures in
    let p = sym (place-stays s (c.args.n - c.loop-read._read) at (λ k. let z = ap (λ (t : SetRead). t.number) e ∙ k in omega (arith, z))) ∙ c.loop-read.invariant in
    reached s c.args.n at _ p e

pub returns-in-Err : goal.returns-in-Err
returns-in-Err c =
    let s = c.args.«data».now in
    let at = c.loop-read.at in
    let e = c.in-Err.ensures in
    let p = sym (place-stays s (c.args.n - c.loop-read._read) at (λ k. let z = ap (λ (t : SetRead). t.number) e ∙ k in omega (arith, z))) ∙ c.loop-read.invariant in
    reached s c.args.n at _ p e

pub loop-read-preserved : goal.loop-read-preserved
loop-read-preserved c =
    let s = c.args.«data».now in
    let at = c.loop-read.at in
    let e = rw c.in-Ok-Some.field-0-is at c.in-Ok-Some.ensures in
    let next = ap (λ (t : SetRead). t.next) e in
    let left = c.args.n - c.loop-read._read in
    rw next (ap (λ (k : ℕ). place_after s k (set_read s at).next) {x = c.args.n - (c.loop-read._read + 1)} {y = left - 1} (omega arith) ∙ sym (place-turn s left at (omega arith)) ∙ c.loop-read.invariant)

pub returns : goal.returns
unfolding place_after
returns c =
    let s = c.args.«data».now in
    let at = c.loop-read.at in
    let none : c.args.n - c.loop-read._read ≡ 0 = omega arith in
    let p = sym (ap (λ (k : ℕ). place_after s k at) none) ∙ c.loop-read.invariant in
    reached s c.args.n at (set_told at c.read_at-2.result) p c.read_at-2.ensures
