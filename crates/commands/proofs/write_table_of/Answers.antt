-- `commands::write_table_of` meets its contract: too short a buffer, a field outside its rule, or the command as it was made. Assumes nothing.
use Rattle.std.proofs.lemmas.Result.{err_from_is_err_and}
use Rattle.commands.proofs.Making.{too_short, built, field-refused}
use Rattle.frames.specs.Commands.{set_table, bracketed}
use Rattle.frames.specs.Frames.{frame_of, sealed}
use Rattle.values.specs.Registers.{good_table}
use Rattle.line.proofs.Runs.{and_right}
use Rattle.values.proofs.Rules.{row-long}
use Rattle.commands.proofs.write_table_of.Goals as goal

pub returns-in_err-room : goal.returns-in_err-room
returns-in_err-room c =
    let p = err_from_is_err_and c.from_residual.result c.from_residual.ensures.1 in
    rw (p.1, p.2) (too_short _ _ _ _ c.in_err-room.ensures.err)

pub returns-in_err-field : goal.returns-in_err-field
returns-in_err-field c =
    let p = err_from_is_err_and c.from_residual-in_err-field.result c.from_residual-in_err-field.ensures.1 in
    rw (p.1, p.2) (field-refused _ _ _ _ c.in_ok-room.ensures.ok (rw (← c.is_table.ensures, ← c.is_row.ensures) c.in_err-field.ensures.err.0) c.in_err-field.ensures.err.1)

pub shown_table-requires : goal.shown_table-requires
shown_table-requires c = row-long _ (and_right (good_table c.args.tables c.args.table.0) _ (rw (← c.is_table.ensures, ← c.is_row.ensures) c.in_ok-field.ensures.ok))

pub returns : goal.returns
unfolding frame_of sealed set_table bracketed
returns c =
    rw (← c.shown_table.ensures) (built _ _ _ _ _ c.in_ok-room.ensures.ok (rw (← c.is_table.ensures, ← c.is_row.ensures) c.in_ok-field.ensures.ok) c.aside.ensures)
