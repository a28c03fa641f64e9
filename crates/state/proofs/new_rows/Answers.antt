-- `state::new_rows` meets its contract: 25 rows of '1', or 24 and a row of 0. Assumes nothing.
use Rattle.std.proofs.Common.{◌≡◌, ℕ, replicate, ◌∙◌, arith, eq-eqb, ne_eqb}
use lib.ListN.{length-replicate}
use Rattle.text.specs.Writing.{stored, holding}
use Rattle.text.proofs.Writing.{stored-holding}
use Rattle.values.specs.Edition.{tables_of}
use Rattle.state.specs.Making.{new_rows}
use Rattle.state.proofs.new_rows.Goals as goal

laid : (e : ℕ) → (e ≡ 2 → ⊥) → stored (replicate 600 0) 0 (replicate 576 49) ≡ new_rows e
unfolding new_rows tables_of holding
laid e h =
    rw (ne_eqb e 2 h)
    (stored-holding (replicate 600 0) (replicate 576 49) (omega (arith, length-replicate {A = ℕ} 576 49, length-replicate {A = ℕ} 600 0)))

pub returns-then-edition-eq2 : goal.returns-then-edition-eq2
unfolding new_rows tables_of
returns-then-edition-eq2 c = rw (eq-eqb _ _ c.if-edition-eq2.true)

pub returns : goal.returns
returns c = c.put.ensures.held ∙ laid _ c.if-edition-eq2.false
