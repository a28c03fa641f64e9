-- `deciding::bare` meets its contract: each way out is the case of the definition that its tests name. Assumes nothing.
use Rattle.std.proofs.Common.{arith, eq-eqb, le-leb}
use Rattle.deciding.specs.Verdicts.{command_of, number_of, verdict_of}
use Rattle.deciding.specs.Verdict.{bare_verdict}
use Rattle.deciding.proofs.Choices.{unlike, outside}
use Rattle.deciding.proofs.bare.Goals as goal

pub returns-in-66-eq48-2-to-4 : goal.returns-in-66-eq48-2-to-4
unfolding bare_verdict command_of number_of verdict_of
returns-in-66-eq48-2-to-4 c =
    let a = c.args in
    let h = c.in-66-eq48-2-to-4 in
    rw (eq-eqb a.a 66 (omega (arith, h.is-0, h.is-1)), eq-eqb a.b 48 (omega (arith, h.is-0, h.is-1)), le-leb 2 a.mode (omega (arith, h.is-0, h.is-1)), le-leb a.mode 4 (omega (arith, h.is-0, h.is-1)))

pub returns-in-66-eq48-default : goal.returns-in-66-eq48-default
unfolding bare_verdict command_of number_of verdict_of
returns-in-66-eq48-default c =
    let a = c.args in
    let h = c.in-66-eq48-default in
    rw (eq-eqb a.a 66 (omega (arith, h.is-0, h.is-1)), eq-eqb a.b 48 (omega (arith, h.is-0, h.is-1)), outside a.mode (λ p q. omega (arith, p, q, h.is-0, h.is-1)))

pub returns-in-66-eq48-default-2 : goal.returns-in-66-eq48-default-2
unfolding bare_verdict command_of number_of verdict_of
returns-in-66-eq48-default-2 c =
    let a = c.args in
    let h = c.in-66-eq48-default in
    rw (eq-eqb a.a 66 (omega (arith, h.is-0, h.is-1)), eq-eqb a.b 48 (omega (arith, h.is-0, h.is-1)), outside a.mode (λ p q. omega (arith, p, q, h.is-0, h.is-1)))

pub returns-in_default : goal.returns-in_default
unfolding bare_verdict command_of number_of verdict_of
returns-in_default c =
    let a = c.args in
    let h = c.in_default in
    rw (unlike a.a a.b 66 48 (λ p q. omega (arith, p, q, h.is-0, h.is-1)))

pub returns-in_default-2 : goal.returns-in_default-2
unfolding bare_verdict command_of number_of verdict_of
returns-in_default-2 c =
    let a = c.args in
    let h = c.in_default in
    rw (unlike a.a a.b 66 48 (λ p q. omega (arith, p, q, h.is-0)))
