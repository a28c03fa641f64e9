-- `state::closing::with_period` meets its contract: the places one by one are what the list says. Assumes nothing.
use Rattle.state.proofs.Archives.{counted-on, first-eleven, one-more-is}
use Rattle.state.proofs.closing.with_period.Goals as goal

pub returns : goal.returns
returns c =
    let a = c.args.a in
    let places = c.requires.0 in
    rw (c.min.ensures, counted-on a.count, first-eleven a.periods _ places.1) (one-more-is c.args.p a places.0 places.1 c.requires.1)
