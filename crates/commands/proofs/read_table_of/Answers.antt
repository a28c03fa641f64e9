-- `commands::read_table_of` meets its contract: a table number in the brackets of R1. Assumes nothing.
use Rattle.text.specs.Decimal.{decimal}
use Rattle.text.specs.Layout.{layout_text}
use Rattle.values.specs.Texts.{table_text}
use Rattle.frames.specs.Commands.{ask_table, bracketed}
use Rattle.frames.specs.Frames.{frame_of, sealed}
use Rattle.commands.proofs.Making.{judged}
use Rattle.commands.proofs.read_table_of.Goals as goal

pub returns : goal.returns
unfolding frame_of sealed ask_table bracketed table_text layout_text decimal
returns c = judged _ _ _ _ _ _ c.is_table-good.ensures c.build.ensures
