-- `mercury::answering::read` meets its contract: each way out is the case of the definition that its tests name. Assumes nothing.
use mathlib.Core.Path.{sym, ap, ◌∙◌}
use native.Mathlib.Omega.{arith}
use borrow.Author.Tests.{eq-eqb, ne_eqb}
use Rattle.std.specs.Prelude.{Ok}
use Rattle.mercury.proofs.Lengths.{at-least-four, just-nineteen}
use Rattle.mercury.proofs.Ways.{wrong-length, wrong-crc, other-address, a-status, some-data}
use Rattle.mercury.proofs.answering.read.Goals as goal

pub returns-then-not-good_length : goal.returns-then-not-good_length
returns-then-not-good_length c = wrong-length _ _ (sym c.good_length.ensures ∙ c.if-not-good_length.true)

pub bounds-s-0 : goal.bounds-s-0
bounds-s-0 c =
    omega (arith, at-least-four _ (sym c.good_length.ensures ∙ c.if-not-good_length.false))

pub bounds-s-1 : goal.bounds-s-1
bounds-s-1 c =
    omega (arith, at-least-four _ (sym c.good_length.ensures ∙ c.if-not-good_length.false))

pub returns-then-not-check : goal.returns-then-not-check
returns-then-not-check c =
    let sized = sym c.good_length.ensures ∙ c.if-not-good_length.false in
    wrong-crc _ _ sized (sym c.check.ensures ∙ c.if-not-check.true)

pub returns-then-s-address : goal.returns-then-s-address
returns-then-s-address c =
    let sized = sym c.good_length.ensures ∙ c.if-not-good_length.false in
    other-address _ _ sized (sym c.check.ensures ∙ c.if-not-check.false) (ne_eqb _ _ c.if-s-address.true)

pub returns-then-s-eq-STATUS : goal.returns-then-s-eq-STATUS
returns-then-s-eq-STATUS c =
    let sized = sym c.good_length.ensures ∙ c.if-not-good_length.false in
    a-status _ _ sized (sym c.check.ensures ∙ c.if-not-check.false) (eq-eqb _ _ c.if-s-address.false) (eq-eqb _ _ c.if-s-eq-STATUS.true)

pub energy_in-requires : goal.energy_in-requires
energy_in-requires c =
    let sized = sym c.good_length.ensures ∙ c.if-not-good_length.false in
    omega (arith, just-nineteen _ sized (ne_eqb _ _ c.if-s-eq-STATUS.false))

pub returns : goal.returns
returns c =
    let sized = sym c.good_length.ensures ∙ c.if-not-good_length.false in
    ap Ok c.energy_in.ensures
    ∙ some-data _ _ sized (sym c.check.ensures ∙ c.if-not-check.false) (eq-eqb _ _ c.if-s-address.false)
    (ne_eqb _ _ c.if-s-eq-STATUS.false)
