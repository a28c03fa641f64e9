-- `commands::read_table` meets its contract: 16, or the command for as many tables as the edition has. Assumes nothing.
use borrow.Author.Tests.{both_ways}
use Rattle.std.proofs.lemmas.Result.{err_from_is_err_and}
use Rattle.commands.proofs.Making.{no-edition}
use Rattle.commands.proofs.read_table.Goals as goal

pub returns-in_err-tables : goal.returns-in_err-tables
returns-in_err-tables c =
    let p = err_from_is_err_and c.from_residual.result c.from_residual.ensures.1 in
    rw (p.1, p.2) (no-edition _ _ _ _ _ c.in_err-tables.ensures.err)

pub returns : goal.returns
returns c =
    let is = c.in_ok-tables.ensures.ok in
    record { none = λ e. absurd (both_ways _ e is.0); some = λ _. (rw (← is.1) c.read_table_of.ensures) }
