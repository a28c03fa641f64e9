-- `datasets::put_counter_set` meets its contract: the opening, and what is shown behind it, put in one after the other. Assumes nothing.
use Rattle.datasets.proofs.Joined.{both}
use Rattle.datasets.proofs.put_counter_set.Goals as goal

pub returns : goal.returns
returns c =
    let opened = c.put-a.ensures in
    let ended = c.put_shown.ensures in
    let all = both _ _ _ _ _ _ _ _ opened.next opened.held ended.next ended.held in
    record { next = all.0; held = all.1 }
