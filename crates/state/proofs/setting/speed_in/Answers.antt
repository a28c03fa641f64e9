-- `state::setting::speed_in` meets its contract: each way out is the case of the definition that its tests name. Assumes nothing.
use Rattle.std.proofs.Common.{le-leb}
use borrow.Author.Tests.{lt-leb}
use Rattle.state.proofs.setting.speed_in.Goals as goal

pub returns-then-mode-ge2 : goal.returns-then-mode-ge2
returns-then-mode-ge2 c = rw (le-leb _ _ c.if-mode-ge2.true)

pub returns-else-mode-ge2 : goal.returns-else-mode-ge2
returns-else-mode-ge2 c = rw (lt-leb _ _ c.if-mode-ge2.false, c.rest_speed.ensures)
