-- `state::part_unused` meets its contract: the word with the first unused place, without what is held of it. Assumes nothing.
use Rattle.std.proofs.Common.{◌≡◌, ℕ, ◌-◌, ◌%◌, List, length, drop, sym, ap, ◌∙◌, arith, rules}
use Rattle.line.specs.Runs.{every}
use Rattle.text.specs.Classes.{between}
use Rattle.state.specs.Sizes.{held_places}
use Rattle.state.proofs.Fours.{take-four}
use Rattle.state.proofs.part_unused.Goals as goal

pub returns : goal.returns
returns c =
    let s = c.args.held.now in
    let count = c.args.count in
    let long : length s ≡ held_places = search rules in
    c.part.ensures ∙ ap (λ (l : List ℕ). every (between 0 0) (drop (count % 4) l)) (sym (take-four s (count - count % 4) (omega (arith, long, c.requires))))
