-- `session::messages::build` meets its contract: each way out is the case of the definition that its tests name. Assumes nothing.
use mathlib.Core.Path.{◌≡◌}
use native.Mathlib.Omega.{arith}
use borrow.Author.Tests.{le-leb, lt-leb, ne_eqb}
use Rattle.session.specs.Messages.{message_at}
use Rattle.commands.specs.Messages.{text_of, good_message}
use Rattle.session.proofs.messages.build.Goals as goal

pub returns-in-1 : goal.returns-in-1
unfolding message_at
returns-in-1 c = rw c.in-1.is c.call.ensures

pub returns-in-2 : goal.returns-in-2
unfolding message_at text_of good_message
returns-in-2 c = rw c.in-2.is c.confirm.ensures

pub returns-in-3 : goal.returns-in-3
unfolding message_at
returns-in-3 c = rw c.in-3.is c.enter.ensures

pub returns-in_default : goal.returns-in_default
unfolding message_at text_of good_message
returns-in_default c =
    rw (ne_eqb c.args.n 1 (λ (e : c.args.n ≡ 1). omega (arith, e)), ne_eqb c.args.n 2 (λ (e : c.args.n ≡ 2). omega (arith, e)), ne_eqb c.args.n 3 (λ (e : c.args.n ≡ 3). omega (arith, e)), le-leb _ _ c.if-n-s.true, ← c.saturating_sub.ensures) c.work_at.ensures

pub returns-in_default-2 : goal.returns-in_default-2
unfolding message_at text_of good_message
returns-in_default-2 c =
    rw (ne_eqb c.args.n 1 (λ (e : c.args.n ≡ 1). omega (arith, e)), ne_eqb c.args.n 2 (λ (e : c.args.n ≡ 2). omega (arith, e)), ne_eqb c.args.n 3 (λ (e : c.args.n ≡ 3). omega (arith, e)), lt-leb _ _ c.if-n-s.false) c.sign_off.ensures
