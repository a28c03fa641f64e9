-- `replies::block::put_sets` meets its contract: its parts, one after the other. Assumes nothing.
use mathlib.Core.Path.{◌≡◌}
use native.Mathlib.Omega.{arith}
use lib.ListN.{length}
use Rattle.replies.specs.Plain.{without_archive}
use Rattle.replies.proofs.Handed.{lengths-without}
use Rattle.replies.proofs.Sizes.{directions-long, directions-most, all-put}
use borrow.Author.Rules.{rules}
use Rattle.replies.proofs.block.put_sets.Goals as goal

pub put_tables-requires : goal.put_tables-requires
put_tables-requires c =
    let p = c.args.p in
    let family = p.facts.decimals in
    (omega (arith, c.requires.1, c.put_facts-a.ensures.next, c.put_directions-b.ensures.next, directions-long family p.counters p.exported, directions-most family), c.requires.0)

pub returns : goal.returns
returns c =
    let a = c.args in
    let rows : length a.rows.now ≡ 600 = search rules in
    let facts = c.put_facts-a.ensures in
    let energies = c.put_directions-b.ensures in
    let tables = c.put_tables.ensures in
    let all =
    all-put a.tables (without_archive a.p a.rows.now) a.buf.now a.at _ _ _ _ _ _
    (lengths-without a.p a.rows.now a.tables (search rules) (search rules) rows c.requires.0) facts.next facts.held
    (record { next = energies.next; held = energies.held }) tables.next tables.held in
    record { next = all.next; held = all.held }
