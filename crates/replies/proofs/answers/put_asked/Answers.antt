-- `replies::answers::put_asked` meets its contract: each case is that of the definition. Assumes nothing.
use mathlib.Core.Path.{sym, ap, ◌∙◌}
use mathlib.Core.Bool.{true, false}
use Prim.Native.Nat.{◌+◌}
use Rattle.datasets.specs.Sets.{serial_set, account_set}
use Rattle.datasets.proofs.Lengths.{serial-line, account-line}
use Rattle.datasets.proofs.Joined.{single}
use Rattle.replies.specs.Plain.{without_archive}
use Rattle.replies.specs.Answers.{asked_sets}
use Rattle.replies.proofs.Sizes.{asked, asked-energy, asked-table, clock-long}
use borrow.Author.Rules.{rules}
use Rattle.replies.proofs.answers.put_asked.Goals as goal

pub returns-in-Clock : goal.returns-in-Clock
unfolding asked_sets
returns-in-Clock c =
    let a = c.args in
    let g = without_archive a.p a.rows.now in
    let e = c.put_clock_sets.ensures in
    let said = asked g a.a _ a.buf.now a.at _ _ (ap (asked_sets g) c.in-Clock.is)
    (record { next = e.next ∙ ap (◌+◌ a.at) (sym (clock-long a.p.clock.time a.p.clock.date)); held = e.held }) in
    record { next = said.0; held = said.1 }

pub returns-in-Serial : goal.returns-in-Serial
unfolding asked_sets
returns-in-Serial c =
    let a = c.args in
    let g = without_archive a.p a.rows.now in
    let e = c.put_serial_set.ensures in
    let serial = a.p.facts.serial in
    let said = asked g a.a _ a.buf.now a.at _ _ (ap (asked_sets g) c.in-Serial.is)
    (single (serial_set serial) 20 _ _ _ _ (serial-line serial (search rules)) e.next e.held) in
    record { next = said.0; held = said.1 }

pub returns-in-Account : goal.returns-in-Account
unfolding asked_sets
returns-in-Account c =
    let a = c.args in
    let g = without_archive a.p a.rows.now in
    let e = c.put_account_set.ensures in
    let said = asked g a.a _ a.buf.now a.at _ _ (ap (asked_sets g) c.in-Account.is)
    (single (account_set a.p.account) 19 _ _ _ _ (account-line a.p.account (search rules)) e.next e.held) in
    record { next = said.0; held = said.1 }

pub returns-in-Energy : goal.returns-in-Energy
unfolding asked_sets
returns-in-Energy c =
    let a = c.args in
    let g = without_archive a.p a.rows.now in
    let e = c.put_energy_set.ensures in
    let said = asked-energy g a.a a.buf.now a.at _ _ false _ _ _ (ap (asked_sets g) c.in-Energy.is) c.energy_of-n.ensures e.next e.held in
    record { next = said.0; held = said.1 }

pub returns-in-Export : goal.returns-in-Export
unfolding asked_sets
returns-in-Export c =
    let a = c.args in
    let g = without_archive a.p a.rows.now in
    let e = c.put_energy_set-in-Export.ensures in
    let said = asked-energy g a.a a.buf.now a.at _ _ true _ _ _ (ap (asked_sets g) c.in-Export.is) c.energy_of-n-in-Export.ensures e.next e.held in
    record { next = said.0; held = said.1 }

pub returns-in-Table : goal.returns-in-Table
returns-in-Table c =
    let a = c.args in
    let e = c.put_asked_table.ensures in
    let said = asked-table (without_archive a.p a.rows.now) a.a a.buf.now a.at _ _ _ c.in-Table.is e.next e.held in
    record { next = said.0; held = said.1 }
