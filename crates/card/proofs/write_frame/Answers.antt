-- `card::write_frame` meets its contract: the frame of the number and the row, put in its place. Assumes nothing.
use mathlib.Core.Path.{ap, ◌∙◌}
use Rattle.text.specs.Writing.{stored}
use Rattle.card.proofs.Frames.{frame_at}
use Rattle.card.proofs.write_frame.Goals as goal

pub returns : goal.returns
returns c =
    c.put.ensures.held ∙ ap (stored _ _) (c.table_frame-frame.ensures ∙ frame_at c.args.text.now c.args.i)
