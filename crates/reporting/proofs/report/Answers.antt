-- `reporting::report` meets its contract: what the delivery answers, and the rows of the meter after it. Assumes nothing.
use Rattle.export.specs.Refusals.{refusal_number, refusal_place}
use Rattle.state.specs.WellFormed.{tables_in}
use Rattle.numerals.proofs.Begun.{begun, line-begins}
use Rattle.reporting.specs.Report.{row_lines}
use Rattle.reporting.proofs.Rows.{shows-delivered, shows-undelivered, report-room}
use Rattle.reporting.proofs.report.Goals as goal

pub returns-in-Ok : goal.returns-in-Ok
returns-in-Ok c =
    let a = c.args in
    let put = c.put_report.ensures in
    let fed = c.in-Ok.fed in
    let s = shows-delivered a.edition a.text.now a.out.now c.opened-before.result c.opened-before.ensures _ _ c.requires fed.acknowledged fed.next put.all c.in-Ok.ensures put.next put.held in
    record { shows_report = s; why = tt; within = begun a.out.now s.shown _ s.long _ s.held }

pub returns-in-Err : goal.returns-in-Err
returns-in-Err c =
    let a = c.args in
    let put = c.put_report-in-Err.ensures in
    let s =
    shows-undelivered a.edition a.text.now a.out.now c.opened-before.result c.opened-before.ensures _ _ c.requires c.in-Err.refusal put.all c.in-Err.ensures
    (rw (c.number.ensures, c.place.ensures) at put.next) (rw (c.number.ensures, c.place.ensures) at put.held) in
    let r = c.in-Err.refusal in
    let m = c.opened-before.result in
    let why =
    line-begins a.out.now (refusal_number r) (refusal_place r) (row_lines (tables_in m.registers) m.registers.tables)
    (report-room a.out.now (refusal_number r) (refusal_place r) m c.requires put.all) _ (rw (c.number.ensures, c.place.ensures) at put.held) in
    record { shows_report = s; why = why; within = begun a.out.now s.shown _ s.long _ s.held }
