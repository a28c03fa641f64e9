-- `replies::answers::put_clock_sets` meets its contract: one line after the other. Assumes nothing.
use native.Mathlib.Omega.{arith}
use Rattle.datasets.specs.Sets.{time_set, date_set}
use Rattle.datasets.proofs.Lengths.{time-line, date-line}
use Rattle.datasets.proofs.Joined.{single, joined}
use Rattle.replies.proofs.answers.put_clock_sets.Goals as goal

pub returns : goal.returns
returns c =
    let a = c.args in
    let first = c.put_time_set-a.ensures in
    let second = c.put_date_set.ensures in
    let one = single (time_set a.c.time) 17 a.buf.now a.at _ _ (time-line a.c.time) first.next first.held in
    let two = joined _ _ _ _ _ _ _ _ one (single (date_set a.c.date) 17 _ _ _ _ (date-line a.c.date) second.next second.held) in
    record { next = omega (arith, first.next, second.next); held = two.held }
