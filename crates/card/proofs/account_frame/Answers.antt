-- `card::account_frame` meets its contract: the frame fills the array. Assumes nothing.
use mathlib.Core.Path.{ap, ◌∙◌}
use mathlib.Core.List.{map}
use lib.ListN.{replicate}
use Rattle.line.specs.Characters.{sent}
use Rattle.text.specs.Writing.{holding}
use Rattle.card.specs.Frames.{account_frame}
use Rattle.card.proofs.Frames.{account-sealed, length-account-frame, held_whole}
use Rattle.card.proofs.account_frame.Goals as goal

pub returns : goal.returns
unfolding account_frame
returns c =
    let a = c.args.account.now in
    c.put_frame.ensures ∙ ap (λ m. holding (replicate 19 0) (map sent m)) (account-sealed a) ∙ held_whole (replicate 19 0) (account_frame a) (length-account-frame a c.requires)
