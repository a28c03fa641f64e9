-- `cardwriting::write` meets its contract: each way out is the answer that the edition, the state and the room name. Assumes nothing.
use mathlib.Core.Path.{refl, sym, ◌∙◌}
use native.Mathlib.Omega.{arith}
use Rattle.state.proofs.Parts.{long}
use Rattle.cardwriting.proofs.Writing.{answers-16, answers-14, answers-41, answers-1}
use Rattle.cardwriting.proofs.write.Goals as goal

pub returns-then-not-has_edition : goal.returns-then-not-has_edition
returns-then-not-has_edition c =
    let a = c.args in
    answers-16 a.m a.out.now (sym c.has_edition.ensures ∙ c.if-not-has_edition.true)

pub returns-then-not-is_well_formed : goal.returns-then-not-is_well_formed
returns-then-not-is_well_formed c =
    let a = c.args in
    answers-14 a.m a.out.now (sym c.has_edition.ensures ∙ c.if-not-has_edition.false) (sym c.is_well_formed.ensures ∙ c.if-not-is_well_formed.true)

pub returns-then-out-length : goal.returns-then-out-length
returns-then-out-length c =
    let a = c.args in
    answers-41 a.m a.out.now (sym c.has_edition.ensures ∙ c.if-not-has_edition.false) (sym c.is_well_formed.ensures ∙ c.if-not-is_well_formed.false) _ _
    c.tables_of-tables.ensures.value refl c.if-out-length.true

pub put_own-requires : goal.put_own-requires
put_own-requires c =
    let a = c.args in
    let few = c.tables_of-tables.ensures.few.1 in
    let l = long a.m (sym c.is_well_formed.ensures ∙ c.if-not-is_well_formed.false) in
    (l.account, omega (arith, few), omega (arith, few, l.tables), c.if-out-length.false)

pub returns : goal.returns
returns c =
    let a = c.args in
    answers-1 a.m a.out.now (sym c.has_edition.ensures ∙ c.if-not-has_edition.false) (sym c.is_well_formed.ensures ∙ c.if-not-is_well_formed.false) _ _
    c.tables_of-tables.ensures.value refl _ c.if-out-length.false c.put_own.ensures
