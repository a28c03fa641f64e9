-- `state::setting::in_mode` meets its contract: each way out is the case of the definition that its tests name. Assumes nothing.
use Rattle.state.proofs.setting.in_mode.Goals as goal

pub returns : goal.returns
returns c = rw (c.empty_receiver-next.ensures, c.speed_in.ensures, c.link_of.ensures)
