-- `session::turning::is_right` meets its contract: each way out is the case of the definition that its tests name. Assumes nothing.
use mathlib.Core.Path.{◌≡◌}
use native.Mathlib.Omega.{arith}
use borrow.Author.Tests.{le-leb, lt-leb, ne_eqb}
use Rattle.session.specs.Turns.{right_at}
use Rattle.session.proofs.turning.is_right.Goals as goal

pub returns-in-1 : goal.returns-in-1
unfolding right_at
returns-in-1 c = rw (c.in-1.is, c.is_identification.ensures)

pub returns-in-2 : goal.returns-in-2
unfolding right_at
returns-in-2 c = rw (c.in-2.is, c.is_password_ask.ensures)

pub returns-in-3 : goal.returns-in-3
unfolding right_at
returns-in-3 c = rw (c.in-3.is, c.is_ack.ensures)

pub returns-in_default : goal.returns-in_default
unfolding right_at
returns-in_default c =
    rw (ne_eqb c.args.n 1 (λ (e : c.args.n ≡ 1). omega (arith, e)), ne_eqb c.args.n 2 (λ (e : c.args.n ≡ 2). omega (arith, e)), ne_eqb c.args.n 3 (λ (e : c.args.n ≡ 3). omega (arith, e)), le-leb _ _ c.if-n-s.true, c.is_right_work.ensures, c.saturating_sub.ensures)

pub returns-in_default-2 : goal.returns-in_default-2
unfolding right_at
returns-in_default-2 c =
    rw (ne_eqb c.args.n 1 (λ (e : c.args.n ≡ 1). omega (arith, e)), ne_eqb c.args.n 2 (λ (e : c.args.n ≡ 2). omega (arith, e)), ne_eqb c.args.n 3 (λ (e : c.args.n ≡ 3). omega (arith, e)), lt-leb _ _ c.if-n-s.false, c.is_ack-in_default-2.ensures)
