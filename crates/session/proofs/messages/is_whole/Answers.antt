-- `session::messages::is_whole` meets its contract: its tests are those of the definition. Assumes nothing.
use Rattle.session.specs.Messages.{whole_line}
use Rattle.session.proofs.messages.is_whole.Goals as goal

pub returns : goal.returns
unfolding whole_line
returns c = rw (c.same.ensures, c.first.ensures.result_value, c.at.ensures, c.same-2.ensures, c.rest.ensures.result_value)
