-- `exporting::show` meets its contract: the frames, or the line of what the export refuses. Assumes nothing.
use Rattle.std.proofs.Common.{◌≤◌, length, arith}
use Rattle.numerals.proofs.Begun.{line-shown}
use Rattle.export.proofs.Answers.{not-done}
use Rattle.exporting.proofs.Answers.{shows-done, shows-refused, shown-within}
use Rattle.export.specs.Refusals.{refusal_number, refusal_place}
use Rattle.exporting.proofs.show.Goals as goal

pub returns-in-Ok : goal.returns-in-Ok
returns-in-Ok c =
    let a = c.args in
    let s = shows-done a.edition a.text.now a.out.now c.requires c.in-Ok.length _ c.in-Ok.ensures in
    record { shown_for = s; why = tt; within = shown-within a.edition a.text.now a.out.now 1 _ _ s }

pub returns-in-Err : goal.returns-in-Err
returns-in-Err c =
    let a = c.args in
    let r = c.in-Err.refusal in
    let line = c.put_line-length.ensures in
    let s =
    shows-refused a.edition a.text.now a.out.now c.requires (refusal_number r) (refusal_place r) c.export.new.out (not-done r) c.in-Err.ensures _
    (rw (c.number.ensures, c.place.ensures) at line.next) _ (rw (c.number.ensures, c.place.ensures) at line.held) in
    let room : 42 ≤ length c.export.new.out = omega (arith, c.requires, c.export.auto.out) in
    let why = line-shown c.export.new.out (refusal_number r) (refusal_place r) room _ (rw (c.number.ensures, c.place.ensures) at line.held) in
    record { shown_for = s; why = why; within = shown-within a.edition a.text.now a.out.now (refusal_number r) _ _ s }
