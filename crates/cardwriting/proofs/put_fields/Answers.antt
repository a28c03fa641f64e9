-- `cardwriting::put_fields` meets its contract: what is written so far is the fields of the tables gone through. Assumes nothing.
use mathlib.Core.Path.{◌≡◌, refl, ap, ◌∙◌}
use Prim.Native.Nat.{ℕ, ◌+◌}
use native.Mathlib.Omega.{arith}
use lib.ListN.{length}
use Rattle.text.specs.Writing.{stored}
use Rattle.text.proofs.Writing.{length-stored}
use Rattle.card.specs.Grammar.{table_fields}
use Rattle.cardwriting.specs.Writing.{entries_from}
use Rattle.cardwriting.proofs.Writing.{fields-none, fields-more}
use Rattle.cardwriting.proofs.put_fields.Goals as goal

pub loop-i-init : goal.loop-i-init
loop-i-init c = (omega arith, refl, fields-none c.args.rows.now c.args.out.now)

pub put_field-requires : goal.put_field-requires
put_field-requires c = (omega (arith, c.requires.0), omega (arith, c.requires.1), omega (arith, c.requires.2, c.loop-i.invariant.1))

pub loop-i-preserved : goal.loop-i-preserved
loop-i-preserved c = let l = c.loop-i in
    let rows = c.args.rows.now in
    let e = fields-more rows c.args.out.now l.out l.i _ (omega (arith, c.requires.1)) l.invariant.2 c.put_field.ensures in
    (omega arith, ap length e ∙ length-stored c.args.out.now 13 (table_fields (entries_from 0 (l.i + 1) rows)), e)

pub shape_of-out : goal.shape_of-out
shape_of-out c = c.loop-i.invariant.1

pub returns : goal.returns
returns c = let l = c.loop-i in
    let e : l.i ≡ c.args.tables = omega arith in
    l.invariant.2 ∙ ap (λ (i : ℕ). stored c.args.out.now 13 (table_fields (entries_from 0 i c.args.rows.now))) e
