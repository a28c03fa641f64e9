-- `showing::show_register` meets its contract. Assumes nothing.
use Rattle.numerals.proofs.Begun.{begun}
use Rattle.showing.specs.Shown.{readout_shown, register_shown}
use Rattle.showing.proofs.show_register.Goals as goal

pub returns : goal.returns
unfolding readout_shown register_shown
returns c =
    let a = c.args in
    let s = c.show_reply.ensures in
    record { shows = s.shows; placed = s.placed; within = begun a.out.now _ _ s.shows.long _ s.shows.held }
