-- `frames::wired_line` meets its contract: the start, the serial and the end, put in one after the other. Assumes nothing.
use native.Mathlib.Omega.{arith}
use mathlib.Core.List.{[], ◌∷◌}
use lib.ListN.{replicate, length-append}
use Rattle.values.specs.Texts.{wired_text}
use Rattle.values.proofs.Rules.{wired-text-long}
use Rattle.frames.specs.Session.{wired_line}
use Rattle.frames.proofs.Lines.{line-put}
use Rattle.frames.proofs.wired_line.Goals as goal

pub returns : goal.returns
unfolding wired_line
returns c =
    let letter = c.args.letter in
    let shown = wired_text c.args.serial.now in
    let eleven = wired-text-long c.args.serial.now c.requires in
    let first = c.put-a.ensures in
    let second = c.put_wired-b.ensures in
    let third = c.put.ensures in
    line-put (replicate 15 0) (47 ∷ letter ∷ []) shown (13 ∷ 10 ∷ []) _ _ _ _ _ first.next first.held (omega (arith, second.next, eleven)) second.held third.held
    (omega (arith, eleven, length-append shown (13 ∷ 10 ∷ [])))
