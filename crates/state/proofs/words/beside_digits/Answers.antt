-- `state::words::beside_digits` meets its contract: the law of four digits. Assumes nothing.
use Rattle.std.proofs.Common.{◌≡◌, ◌+◌, ◌%◌, refl, ◌∙◌, arith}
use Rattle.state.proofs.Fours.{digits-word}
use Rattle.state.proofs.words.beside_digits.Goals as goal

pub returns : goal.returns
returns c =
    let a = c.args in
    let above = (c.four-above.result + 3486502864) % 4294967296 in
    let back : (above + 0x30303030) % 4294967296 ≡ c.four-above.result = omega (arith, c.four-above.type_inv) in
    digits-word above ((above + 1987475062) % 4294967296) a.a a.b a.c a.d (omega arith) (omega arith) (omega arith) (omega arith) (omega arith) (omega arith)
    (back ∙ c.four-above.ensures) refl
