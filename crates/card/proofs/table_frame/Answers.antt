-- `card::table_frame` meets its contract: the frame fills the array. Assumes nothing.
use mathlib.Core.Path.{ap, ◌∙◌}
use mathlib.Core.List.{map}
use lib.ListN.{replicate}
use Rattle.line.specs.Characters.{sent}
use Rattle.text.specs.Writing.{holding}
use Rattle.frames.specs.Frames.{frame_of, on_wire}
use Rattle.frames.specs.Commands.{W1, set_table}
use Rattle.card.proofs.Frames.{table-sealed, length-row-frame, held_whole}
use Rattle.card.proofs.table_frame.Goals as goal

pub returns : goal.returns
returns c = let n = c.args.number in
    let row = c.args.row.now in
    c.put_frame.ensures ∙ ap (λ m. holding (replicate 36 0) (map sent m)) (table-sealed n row) ∙ held_whole (replicate 36 0) (on_wire (frame_of W1 (set_table n row))) (length-row-frame n row c.requires)
