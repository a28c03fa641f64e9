-- `card::write_frames` meets its contract: the account's frame, and the tables' behind it. Assumes nothing.
use mathlib.Core.Path.{ap, ◌∙◌}
use Rattle.text.specs.Writing.{stored}
use Rattle.card.proofs.Frames.{frames-whole}
use Rattle.card.proofs.write_frames.Goals as goal

pub returns : goal.returns
returns c =
    let t = c.args.text.now in
    let out = c.args.out.now in
    frames-whole t out _ c.args.tables _ c.requires.0 (c.put.ensures.held ∙ ap (stored out 0) c.account_frame-first.ensures) c.write_tables.ensures
