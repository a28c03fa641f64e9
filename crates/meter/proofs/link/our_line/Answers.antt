-- `meter::link::our_line` meets its contract: the start, the serial and the end, put in one after the other. Assumes nothing.
use native.Mathlib.Omega.{arith}
use mathlib.Core.List.{[], ◌∷◌}
use lib.ListN.{replicate, length-append}
use Rattle.values.specs.Texts.{serial_text}
use Rattle.values.proofs.Rules.{serial-text-long}
use Rattle.frames.proofs.Lines.{line-put}
use Rattle.meter.specs.SignOn.{our_line}
use borrow.Author.Rules.{rules}
use Rattle.meter.proofs.link.our_line.Goals as goal

pub returns : goal.returns
unfolding our_line
returns c =
    let shown = serial_text c.args.serial.now in
    let eleven = serial-text-long c.args.serial.now c.requires in
    let first = c.put-a.ensures in
    let second = c.put_serial-b.ensures in
    let third = c.put.ensures in
    line-put (replicate 15 0) (47 ∷ 63 ∷ []) shown (33 ∷ 13 ∷ []) _ _ _ _ _ first.next first.held (omega (arith, second.next, eleven)) second.held third.held
    (omega (arith, eleven, length-append shown (33 ∷ 13 ∷ [])))
