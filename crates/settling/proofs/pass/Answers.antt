-- `settling::pass` meets its contract: each way out is the case of the definition that its tests name. Assumes nothing.
use Rattle.std.proofs.Common.{refl, sym, ◌∙◌, eq-eqb, ne_eqb}
use Rattle.settling.specs.Settling.{settles_by, refusal_by}
use Rattle.settling.proofs.pass.Goals as goal

pub returns-then-not-is_edition : goal.returns-then-not-is_edition
unfolding settles_by refusal_by
returns-then-not-is_edition c = rw (← c.is_edition.ensures, c.if-not-is_edition.true) (refl, λ held tables. refl)

pub returns-then-number-ne0 : goal.returns-then-number-ne0
unfolding settles_by refusal_by
returns-then-number-ne0 c =
    rw (← c.is_edition.ensures, c.if-not-is_edition.false, ← c.refusal_of-number.ensures, ne_eqb _ _ c.if-number-ne0.true) (refl, λ held tables. refl)

pub returns-then-formed : goal.returns-then-formed
returns-then-formed c =
    record {
      edition = sym c.is_edition.ensures ∙ c.if-not-is_edition.false;
      unrefused = sym c.refusal_of-number.ensures ∙ c.if-number-ne0.false;
      well = c.if-formed.true;
    }

pub returns : goal.returns
unfolding settles_by refusal_by
returns c =
    rw (← c.is_edition.ensures, c.if-not-is_edition.false, ← c.refusal_of-number.ensures, eq-eqb _ _ c.if-number-ne0.false, c.if-formed.false) (refl, λ held tables. refl)
