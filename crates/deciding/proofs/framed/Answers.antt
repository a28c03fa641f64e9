-- `deciding::framed` meets its contract: each way out is the case of the definition that its tests name. Assumes nothing.
use Rattle.std.proofs.Common.{arith, eq-eqb, ne_eqb}
use Rattle.deciding.specs.Verdicts.{command_of, number_of, verdict_of}
use Rattle.deciding.specs.Verdict.{framed_verdict}
use Rattle.deciding.proofs.Choices.{unlike, read_modes, other_modes}
use Rattle.deciding.proofs.framed.Goals as goal

pub returns-in-80-eq49-eq2 : goal.returns-in-80-eq49-eq2
unfolding framed_verdict command_of number_of verdict_of
returns-in-80-eq49-eq2 c =
    let a = c.args in
    let h = c.in-80-eq49-eq2 in
    rw (eq-eqb a.a 80 (omega (arith, h.is-0, h.is-1, h.is-2)), eq-eqb a.b 49 (omega (arith, h.is-0, h.is-1, h.is-2)), eq-eqb a.mode 2 (omega (arith, h.is-0, h.is-1, h.is-2)), c.enters.ensures)

pub returns-in-82-eq49-eq3 : goal.returns-in-82-eq49-eq3
unfolding framed_verdict command_of number_of verdict_of
returns-in-82-eq49-eq3 c =
    let a = c.args in
    let h = c.in-82-eq49-eq3 in
    rw (unlike a.a a.b 80 49 (λ p q. omega (arith, p, q, h.is-0, h.is-1)), eq-eqb a.a 82 (omega (arith, h.is-0, h.is-1)), eq-eqb a.b 49 (omega (arith, h.is-0, h.is-1)), read_modes a.mode (omega (arith, h.is-0, h.is-1)) (omega (arith, h.is-0, h.is-1)), c.asks.ensures)

pub returns-in-87-eq49-eq4 : goal.returns-in-87-eq49-eq4
unfolding framed_verdict command_of number_of verdict_of
returns-in-87-eq49-eq4 c =
    let a = c.args in
    let h = c.in-87-eq49-eq4 in
    rw (unlike a.a a.b 80 49 (λ p q. omega (arith, p, q, h.is-0, h.is-1, h.is-2)), unlike a.a a.b 82 49 (λ p q. omega (arith, p, q, h.is-0, h.is-1, h.is-2)), eq-eqb a.a 87 (omega (arith, h.is-0, h.is-1, h.is-2)), eq-eqb a.b 49 (omega (arith, h.is-0, h.is-1, h.is-2)), eq-eqb a.mode 4 (omega (arith, h.is-0, h.is-1, h.is-2)), c.tells.ensures)

pub returns-in-80-eq49-default : goal.returns-in-80-eq49-default
unfolding framed_verdict command_of number_of verdict_of
returns-in-80-eq49-default c =
    let a = c.args in
    let h = c.in-80-eq49-default in
    rw (eq-eqb a.a 80 (omega (arith, h.is-0, h.is-1, h.is-2)), eq-eqb a.b 49 (omega (arith, h.is-0, h.is-1, h.is-2)), ne_eqb a.mode 2 (λ p. omega (arith, p, h.is-0, h.is-1, h.is-2)))

pub returns-in-80-eq49-default-2 : goal.returns-in-80-eq49-default-2
unfolding framed_verdict command_of number_of verdict_of
returns-in-80-eq49-default-2 c =
    let a = c.args in
    let h = c.in-80-eq49-default in
    rw (unlike a.a a.b 80 49 (λ p q. omega (arith, p, q, h.is-0, h.is-1)), eq-eqb a.a 82 (omega (arith, h.is-0, h.is-1)), eq-eqb a.b 49 (omega (arith, h.is-0, h.is-1)), other_modes a.mode (λ p q. omega (arith, p, q, h.is-0, h.is-1)))

pub returns-in-80-eq49-default-3 : goal.returns-in-80-eq49-default-3
unfolding framed_verdict command_of number_of verdict_of
returns-in-80-eq49-default-3 c =
    let a = c.args in
    let h = c.in-80-eq49-default in
    rw (unlike a.a a.b 80 49 (λ p q. omega (arith, p, q, h.is-0, h.is-1)), eq-eqb a.a 82 (omega (arith, h.is-0, h.is-1)), eq-eqb a.b 49 (omega (arith, h.is-0, h.is-1)), other_modes a.mode (λ p q. omega (arith, p, q, h.is-0, h.is-1)))

pub returns-in-80-eq49-default-4 : goal.returns-in-80-eq49-default-4
unfolding framed_verdict command_of number_of verdict_of
returns-in-80-eq49-default-4 c =
    let a = c.args in
    let h = c.in-80-eq49-default in
    rw (unlike a.a a.b 80 49 (λ p q. omega (arith, p, q, h.is-0, h.is-1, h.is-2)), unlike a.a a.b 82 49 (λ p q. omega (arith, p, q, h.is-0, h.is-1, h.is-2)), eq-eqb a.a 87 (omega (arith, h.is-0, h.is-1, h.is-2)), eq-eqb a.b 49 (omega (arith, h.is-0, h.is-1, h.is-2)), ne_eqb a.mode 4 (λ p. omega (arith, p, h.is-0, h.is-1, h.is-2)))

pub returns-in_default : goal.returns-in_default
unfolding framed_verdict command_of number_of verdict_of
returns-in_default c =
    let a = c.args in
    let h = c.in_default in
    rw (unlike a.a a.b 80 49 (λ p q. omega (arith, p, q, h.is-0, h.is-1)), unlike a.a a.b 82 49 (λ p q. omega (arith, p, q, h.is-0, h.is-1)), unlike a.a a.b 87 49 (λ p q. omega (arith, p, q, h.is-0, h.is-1)))

pub returns-in_default-2 : goal.returns-in_default-2
unfolding framed_verdict command_of number_of verdict_of
returns-in_default-2 c =
    let a = c.args in
    let h = c.in_default in
    rw (unlike a.a a.b 80 49 (λ p q. omega (arith, p, q, h.is-0, h.is-1)), unlike a.a a.b 82 49 (λ p q. omega (arith, p, q, h.is-0, h.is-1)), unlike a.a a.b 87 49 (λ p q. omega (arith, p, q, h.is-0, h.is-1)))

pub returns-in_default-3 : goal.returns-in_default-3
unfolding framed_verdict command_of number_of verdict_of
returns-in_default-3 c =
    let a = c.args in
    let h = c.in_default in
    rw (unlike a.a a.b 80 49 (λ p q. omega (arith, p, q, h.is-0, h.is-1)), unlike a.a a.b 82 49 (λ p q. omega (arith, p, q, h.is-0, h.is-1)), unlike a.a a.b 87 49 (λ p q. omega (arith, p, q, h.is-0, h.is-1)))

pub returns-in_default-4 : goal.returns-in_default-4
unfolding framed_verdict command_of number_of verdict_of
returns-in_default-4 c =
    let a = c.args in
    let h = c.in_default in
    rw (unlike a.a a.b 80 49 (λ p q. omega (arith, p, q, h.is-0)), unlike a.a a.b 82 49 (λ p q. omega (arith, p, q, h.is-0)), unlike a.a a.b 87 49 (λ p q. omega (arith, p, q, h.is-0)))
