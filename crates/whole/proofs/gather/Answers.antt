-- `whole::gather` meets its contract: what is held before the last byte says whether it finishes a frame, and which. Assumes nothing.
use Rattle.std.proofs.Common.{◌≡◌, ◌≤◌, ◌+◌, ◌-◌, ℕ, List, length, drop, length-drop, arith, ne_eqb, Some}
use lib.Seq.{length-take-le}
use Rattle.whole.specs.Gathering.{held_in, any_held}
use Rattle.whole.specs.Looking.{gathered}
use Rattle.whole.proofs.Gathering.{some-few, some_held, none_held}
use Rattle.whole.proofs.gather.Goals as goal

pub returns-in-None : goal.returns-in-None
unfolding gathered
returns-in-None c = rw (none_held _ c.in-None.ensures)

-- where any are held, there is a byte more
some-fit : (s : List ℕ) (k : ℕ) → Some k ≡ any_held (held_in s) → (k + 1 ≤ length s) × (k ≤ 63)
some-fit s k e =
    let held = some_held (held_in s) k e in
    let few = some-few s (λ z. omega (arith, held.0, held.1, z)) in
    (omega (arith, few.0, held.0), omega (arith, few.1, held.0))

pub overflow_sub-last : goal.overflow_sub-last
overflow_sub-last c =
    omega (arith, (some-fit c.args.frame.now c.in-Some.held c.in-Some.ensures).0)

pub overflow_sub-last-in-Some : goal.overflow_sub-last-in-Some
overflow_sub-last-in-Some c =
    omega (arith, (some-fit c.args.frame.now c.in-Some.held c.in-Some.ensures).0)

pub bounds-frame-last : goal.bounds-frame-last
bounds-frame-last c =
    omega (arith, (some-fit c.args.frame.now c.in-Some.held c.in-Some.ensures).0)

pub fill-requires : goal.fill-requires
fill-requires c =
    let s = c.args.frame.now in
    let held = c.in-Some.held in
    let few = some-fit s held c.in-Some.ensures in
    rw (c.first-run.ensures.result_value, c.rest.ensures.result_value)
    (omega (arith, length-take-le held (drop (length s - 1 - held) s) (omega (arith, length-drop (length s - 1 - held) s, few.0)), few.1))

pub returns-in-Some : goal.returns-in-Some
unfolding gathered
returns-in-Some c =
    let held = some_held _ _ c.in-Some.ensures in
    rw (held.0, ne_eqb c.in-Some.held 0 (λ z. omega (arith, held.1, z)), c.fill.ensures, c.first-run.ensures.result_value, c.rest.ensures.result_value)
