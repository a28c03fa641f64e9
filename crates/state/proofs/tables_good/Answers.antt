-- `state::tables_good` meets its contract: the rows that every edition has, and the last. Assumes nothing.
use Rattle.std.proofs.Common.{◌≡◌, length, rules}
use Rattle.state.specs.Sizes.{all_rows}
use Rattle.state.proofs.Fours.{tables-split}
use Rattle.state.proofs.tables_good.Goals as goal

pub returns : goal.returns
returns c =
    let long : length c.args.s.now ≡ all_rows = search rules in
    rw (c.last_good.ensures, c.is_in_row-rows.ensures, c.rows_stray.ensures)
    (tables-split c.args.tables c.args.s.now long c.requires.0 c.requires.1)
