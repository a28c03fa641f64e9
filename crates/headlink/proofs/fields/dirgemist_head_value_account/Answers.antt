-- `headlink::fields::dirgemist_head_value_account` meets its contract: the characters of a good one, or zeros. Assumes nothing.
use mathlib.Core.Path.{sym, ap, ◌∙◌}
use Rattle.values.specs.Registers.{good_account}
use Rattle.values.proofs.Rules.{no-account}
use Rattle.headlink.proofs.Telling.{account-told, account-untold}
use Rattle.headlink.proofs.fields.dirgemist_head_value_account.Goals as goal

pub returns-then-value-ne10 : goal.returns-then-value-ne10
returns-then-value-ne10 c =
    let s = c.args.value.now in
    account-untold _ _ _ s (no-account s c.if-value-ne10.true) c.tell.ensures

pub returns-then-is_whole_account : goal.returns-then-is_whole_account
returns-then-is_whole_account c =
    let s = c.args.value.now in
    account-told _ _ _ s _ (ap good_account (sym c.array_of-account.ensures) ∙ sym c.is_whole_account.ensures ∙ c.if-is_whole_account.true) c.array_of-account.ensures c.tell-then-is_whole_account.ensures

pub returns : goal.returns
returns c =
    let s = c.args.value.now in
    account-untold _ _ _ s (ap good_account (sym c.array_of-account.ensures) ∙ sym c.is_whole_account.ensures ∙ c.if-is_whole_account.false) c.tell-2.ensures
