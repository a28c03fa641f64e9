-- `session::starting::reads_good` meets its contract: what was looked at is good, and what is left decides. Assumes nothing.
use Rattle.session.proofs.Pairs.{reads-turn, reads_end}
use Rattle.session.proofs.starting.reads_good.Goals as goal

pub loop-rest-preserved : goal.loop-rest-preserved
loop-rest-preserved c =
    let a = c.args in
    rw c.read_good-good.ensures (reads-turn a.tables a.family c.loop-rest.good _ c.loop-rest.rest.now c.in-len2-up.len_at_least c.loop-rest.invariant)

pub returns : goal.returns
returns c =
    let a = c.args in
    rw c.is_empty.ensures (reads_end a.tables a.family c.loop-rest.good _ c.loop-rest.rest.now c.in_default.len_below c.loop-rest.invariant)
