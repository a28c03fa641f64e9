-- `reporting::put_report` meets its contract: the line, and the rows below it. Assumes nothing.
use Rattle.std.proofs.Common.{ℕ, ◌++◌, ap, ◌∙◌, arith, rules}
use Rattle.text.specs.Writing.{stored}
use Rattle.text.proofs.Writing.{and_then}
use Rattle.numerals.specs.Numerals.{number_line}
use Rattle.numerals.proofs.Widths.{line-few}
use Rattle.reporting.specs.Report.{row_lines}
use Rattle.reporting.proofs.put_report.Goals as goal

pub put_rows-requires : goal.put_rows-requires
put_rows-requires c =
    let a = c.args in
    let line = c.put_line-at in
    (omega (arith, c.requires, c.tables_of-tables.ensures.few, line.ensures.next, line.auto.buf, line-few a.number a.behind), search rules, c.tables_of-tables.ensures.few.1)

pub returns : goal.returns
returns c =
    let a = c.args in
    let many = c.tables_of-tables.ensures.value in
    let line = c.put_line-at.ensures in
    let rows = c.put_rows.ensures in
    record {
      next = omega (arith, line.next, rows.next, many);
      held = and_then a.out.now 0 (number_line a.number a.behind) _ _ _ _ line.held line.next rows.held ∙ ap (λ (k : ℕ). stored a.out.now 0 (number_line a.number a.behind ++ row_lines k a.m.registers.tables)) many;
      all = search rules;
    }
