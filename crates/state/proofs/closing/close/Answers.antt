-- `state::closing::close` meets its contract: a well-formed archive has what closing asks. Assumes nothing.
use Rattle.state.proofs.Archives.{formed-archive}
use Rattle.state.proofs.closing.close.Goals as goal

pub close_with-a-requires : goal.close_with-a-requires
close_with-a-requires c =
    let f = formed-archive c.args.g.facts.decimals c.args.g.archive c.requires in
    ((f.count, f.long), f.rest)

pub returns : goal.returns
returns c = rw (c.with_archive.ensures, c.close_with-a.ensures)
