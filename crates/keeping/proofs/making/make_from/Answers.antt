-- `keeping::making::make_from` meets its contract: where the lengths are right the arrays are the texts. Assumes nothing.
use Rattle.std.proofs.Common.{◌≡◌, length, ne_eqb}
use Rattle.keeping.proofs.Lengths.{serial-long, account-long, password-long}
use Rattle.keeping.proofs.making.make_from.Goals as goal

pub returns-in_default : goal.returns-in_default
returns-in_default c =
    let other : length c.args.serial.now ≡ 10 → ⊥ = c.in_default.ensures.1 in
    rw (serial-long _ _ _ _ _ _ _ (ne_eqb _ _ other), c.not_made.ensures)

pub returns-in_default-try_from : goal.returns-in_default-try_from
returns-in_default-try_from c =
    let other : length c.args.account.now ≡ 10 → ⊥ = c.in_default-try_from.ensures.1 in
    rw (account-long _ _ _ _ _ _ _ (ne_eqb _ _ other), c.not_made-in_default-try_from.ensures)

pub returns-in_default-try_from-2 : goal.returns-in_default-try_from-2
returns-in_default-try_from-2 c =
    let other : length c.args.password.now ≡ 8 → ⊥ = c.in_default-try_from-2.ensures.1 in
    rw (password-long _ _ _ _ _ _ _ (ne_eqb _ _ other), c.not_made-in_default-try_from-2.ensures)

pub returns : goal.returns
returns c =
    let serial = c.in-Ok.ensures.1 in
    let account = c.in-Ok-try_from.ensures.1 in
    let password = c.in-Ok-try_from-2.ensures.1 in
    rw (c.make.ensures, serial.same, account.same, password.same)
