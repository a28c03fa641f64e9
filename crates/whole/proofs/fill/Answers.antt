-- `whole::fill` meets its contract: the run is put in at once, and the mark is that of the first damaged byte. Assumes nothing.
use mathlib.Core.Path.{sym, ap, ◌∙◌}
use mathlib.Core.List.{map}
use Prim.Native.Nat.{ℕ}
use native.Mathlib.Omega.{arith}
use Rattle.state.specs.Sizes.{held_places}
use lib.ListN.{length-replicate}
use Rattle.damage.proofs.First.{first-hurt}
use Rattle.meter.specs.Character.{symbol}
use Rattle.whole.proofs.Filled.{filled-good, filled-hurt}
use Rattle.whole.proofs.fill.Goals as goal

pub put-requires : goal.put-requires
put-requires c = rw c.empty_receiver-r.ensures (omega (arith, c.requires, length-replicate {A = ℕ} held_places 0))

pub returns-then-undamaged : goal.returns-then-undamaged
returns-then-undamaged c =
    let empty = c.empty_receiver-r.ensures in
    rw (c.with_held-next.ensures, empty)
    (filled-good c.args.run.now _ c.requires (rw empty at (c.to_characters.ensures ∙ ap (map symbol) c.put.ensures.held)) (sym c.undamaged.ensures ∙ c.if-undamaged.true))

pub overflow_cast-first_damaged : goal.overflow_cast-first_damaged
overflow_cast-first_damaged c =
    let run = c.args.run.now in
    omega (arith, c.first_damaged.ensures, c.requires, (first-hurt run (sym c.undamaged.ensures ∙ c.if-undamaged.false)).within)

pub returns : goal.returns
returns c =
    let empty = c.empty_receiver-r.ensures in
    rw (c.with_mark.ensures, c.with_held-next.ensures)
    (filled-hurt c.args.run.now _ _ c.requires (rw empty at (c.to_characters.ensures ∙ ap (map symbol) c.put.ensures.held)) (sym c.undamaged.ensures ∙ c.if-undamaged.false)
    c.first_damaged.ensures)
