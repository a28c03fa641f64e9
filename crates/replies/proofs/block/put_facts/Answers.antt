-- `replies::block::put_facts` meets its contract: one line after the other. Assumes nothing.
use mathlib.Core.Path.{◌≡◌}
use native.Mathlib.Omega.{arith}
use lib.ListN.{length}
use Rattle.datasets.specs.Sets.{time_set, date_set, serial_set, account_set}
use Rattle.datasets.proofs.Lengths.{time-line, date-line, serial-line, account-line}
use Rattle.datasets.proofs.Joined.{single, joined}
use Rattle.replies.specs.Block.{fact_sets}
use borrow.Author.Rules.{rules}
use Rattle.replies.proofs.block.put_facts.Goals as goal

pub returns : goal.returns
unfolding fact_sets
returns c =
    let a = c.args in
    let serial : length a.serial.now ≡ 10 = search rules in
    let account : length a.account.now ≡ 10 = search rules in
    let first = c.put_serial_set-a.ensures in
    let second = c.put_date_set-b.ensures in
    let third = c.put_time_set-c.ensures in
    let fourth = c.put_account_set.ensures in
    let one = single (serial_set a.serial.now) 20 a.buf.now a.at _ _ (serial-line a.serial.now serial) first.next first.held in
    let two = joined _ _ _ _ _ _ _ _ one (single (date_set a.clock.date) 17 _ _ _ _ (date-line a.clock.date) second.next second.held) in
    let three = joined _ _ _ _ _ _ _ _ two (single (time_set a.clock.time) 17 _ _ _ _ (time-line a.clock.time) third.next third.held) in
    let four = joined _ _ _ _ _ _ _ _ three (single (account_set a.account.now) 19 _ _ _ _ (account-line a.account.now account) fourth.next fourth.held) in
    record { next = omega (arith, first.next, second.next, third.next, fourth.next); held = four.held }
