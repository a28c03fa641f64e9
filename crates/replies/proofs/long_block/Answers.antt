-- `replies::long_block` meets its contract: its three parts, one after the other. Assumes nothing.
use mathlib.Core.Path.{◌≡◌}
use lib.ListN.{length}
use Rattle.replies.proofs.Long.{periods-fit, end_fits, three-calls}
use borrow.Author.Rules.{rules}
use Rattle.replies.proofs.long_block.Goals as goal

pub put_periods-b-requires : goal.put_periods-b-requires
put_periods-b-requires c =
    let a = c.args in
    let serial : length a.p.facts.serial ≡ 10 = search rules in
    let account : length a.p.account ≡ 10 = search rules in
    let first = c.long_start-a.ensures in
    (c.requires.0.1, periods-fit a.p a.rows.now a.archive a.tables a.buf.now serial account c.requires.0.0 c.requires.0.1 c.requires.1 _ _ first.next first.held)

pub long_end-requires : goal.long_end-requires
long_end-requires c =
    let a = c.args in
    let serial : length a.p.facts.serial ≡ 10 = search rules in
    let account : length a.p.account ≡ 10 = search rules in
    let first = c.long_start-a.ensures in
    let second = c.put_periods-b.ensures in
    end_fits a.p a.rows.now a.archive a.tables a.buf.now serial account c.requires.0.0 c.requires.0.1 c.requires.1 _ _ first.next first.held _ _ second.next second.held

pub returns : goal.returns
returns c =
    let a = c.args in
    let serial : length a.p.facts.serial ≡ 10 = search rules in
    let account : length a.p.account ≡ 10 = search rules in
    let first = c.long_start-a.ensures in
    let second = c.put_periods-b.ensures in
    let last = c.long_end.ensures in
    let all = three-calls a.p a.rows.now a.archive a.tables a.buf.now serial account c.requires.0.0 c.requires.0.1 c.requires.1 _ _ first.next first.held _ _ second.next second.held _ _ last.whole last.held in
    record { whole = all.0; held = all.1 }
