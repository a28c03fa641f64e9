-- `state::words::part` meets its contract: a character is eight bits. Assumes nothing.
use Rattle.std.proofs.Common.{refl, arith}
use Rattle.state.proofs.Fours.{part_none}
use Rattle.state.proofs.words.part.Goals as goal

pub returns : goal.returns
returns c =
    let a = c.args in
    part_none a.a a.b a.c a.d a.used _ c.four.result c.requires (omega arith) (omega arith) (omega arith) c.four.ensures refl
