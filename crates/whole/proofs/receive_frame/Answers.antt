-- `whole::receive_frame` meets its contract: what a look refuses is refused, and what it finishes is the meter's step at the last byte. Assumes nothing.
use Rattle.std.proofs.Common.{length, refl}
use Rattle.text.specs.Writing.{holding}
use Rattle.whole.proofs.Looking.{finished_as, refused_as}
use Rattle.whole.proofs.receive_frame.Goals as goal

pub take_last-requires : goal.take_last-requires
take_last-requires c =
    let is = finished_as c.args.m (length c.args.reply.now) c.args.frame.now _ c.in-Ok.ensures refl in
    (is.formed, is.large)

pub returns-in-Ok-clause-result : goal.returns-in-Ok-clause-result
returns-in-Ok-clause-result c =
    rw (finished_as c.args.m (length c.args.reply.now) c.args.frame.now _ c.in-Ok.ensures refl).outcome c.take_last.ensures.result

pub returns-in-Ok-clause-held : goal.returns-in-Ok-clause-held
returns-in-Ok-clause-held c =
    rw (finished_as c.args.m (length c.args.reply.now) c.args.frame.now _ c.in-Ok.ensures refl).outcome c.take_last.ensures.held

pub returns-in-Err-clause-result : goal.returns-in-Err-clause-result
returns-in-Err-clause-result c =
    rw (refused_as c.args.m (length c.args.reply.now) c.args.frame.now c.in-Err.e c.in-Err.ensures) c.refused.ensures

pub returns-in-Err-clause-held : goal.returns-in-Err-clause-held
unfolding holding
returns-in-Err-clause-held c = rw (refused_as c.args.m (length c.args.reply.now) c.args.frame.now c.in-Err.e c.in-Err.ensures)
