-- `showing::show_sets` meets its contract: what is shown so far, with what is found from here on, is all (`Goes`). Assumes nothing.
use mathlib.Core.Path.{refl, sym, ap, ◌∙◌}
use native.Mathlib.Omega.{arith}
use lib.ListN.{length}
use Rattle.text.proofs.Writing.{length-stored}
use Rattle.reading.specs.Sets.{SetRead}
use Rattle.reading.specs.Whole.{set_of}
use Rattle.showing.proofs.Going.{goes_first, set-inside, set_room, goes-closer, goes_on, goes-to-end, wrong-place, goes-wrong}
use Rattle.showing.proofs.show_sets.Goals as goal

pub loop-set-init : goal.loop-set-init
loop-set-init c = (refl, goes_first c.args.sets.now c.args.out.now)

pub returns-in-Ok-None-clause-shows : goal.returns-in-Ok-None-clause-shows
returns-in-Ok-None-clause-shows c =
    let a = c.args in
    let L = c.loop-set in
    let e = rw c.in-Ok-None.field-0-is at c.in-Ok-None.ensures in
    goes-to-end a.sets.now a.out.now L.at L.to L.out L.invariant.1 c.requires (ap (λ (r : SetRead). r.number) (sym e))

pub returns-in-Err-clause-shows : goal.returns-in-Err-clause-shows
returns-in-Err-clause-shows c =
    let a = c.args in
    let L = c.loop-set in
    let said = c.refuse.ensures in
    goes-wrong a.sets.now a.out.now L.at L.to L.out L.invariant.1 c.requires _ c.in-Err.ensures (λ k. omega (arith, k)) (λ k. omega (arith, k)) _ said.value _ said.held

pub returns-in-Err-clause-placed : goal.returns-in-Err-clause-placed
returns-in-Err-clause-placed c =
    let a = c.args in
    let L = c.loop-set in
    rw c.refuse.ensures.refused
    (wrong-place a.sets.now a.out.now L.at L.to L.out L.invariant.1 _ c.in-Err.ensures (λ k. omega (arith, k)) (λ k. omega (arith, k)))

pub put_set-to-requires : goal.put_set-to-requires
put_set-to-requires c =
    let a = c.args in
    let L = c.loop-set in
    let e = rw c.in-Ok-Some.field-0-is at c.in-Ok-Some.ensures in (
      set-inside a.sets.now a.out.now L.at L.to L.out L.invariant.1 _ e refl,
      set_room a.sets.now a.out.now L.at L.to L.out L.invariant.1 _ e refl c.requires L.invariant.0,
    )

pub loop-set-smaller : goal.loop-set-smaller
loop-set-smaller c =
    let a = c.args in
    let L = c.loop-set in
    let e = rw c.in-Ok-Some.field-0-is at c.in-Ok-Some.ensures in
    goes-closer a.sets.now a.out.now L.at L.to L.out L.invariant.1 _ e refl

pub loop-set-preserved : goal.loop-set-preserved
unfolding set_of
loop-set-preserved c =
    let a = c.args in
    let L = c.loop-set in
    let e = rw c.in-Ok-Some.field-0-is at c.in-Ok-Some.ensures in
    let line = c.put_set-to.ensures in (
      ap length line.held ∙ length-stored _ _ _ ∙ L.invariant.0,
      goes_on a.sets.now a.out.now L.at L.to L.out L.invariant.1 _ e refl _ line.next _ line.held,
    )
