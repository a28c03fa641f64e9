-- `commands::shown_table` meets its contract: number, semicolon and row fill the array. Assumes nothing.
use mathlib.Core.List.{List, [], ◌∷◌}
use mathlib.Core.Path.{◌∙◌}
use Prim.Native.Nat.{ℕ}
use native.Mathlib.Omega.{arith}
use lib.ListN.{length-append}
use Rattle.values.specs.Texts.{table_text}
use Rattle.values.proofs.Rules.{table-text-long}
use Rattle.commands.proofs.Making.{three}
use Rattle.text.proofs.Writing.{filled}
use Rattle.commands.proofs.shown_table.Goals as goal

pub returns : goal.returns
returns c =
    let t = table_text c.args.t.0 in let semicolon : List ℕ = 59 ∷ [] in let k = three _ t semicolon c.args.row.now _ _ _ _ _ _ (rw (table-text-long c.args.t.0) c.put_table-a.ensures.next) c.put_table-a.ensures.held c.put-b.ensures.next c.put-b.ensures.held c.put.ensures.next c.put.ensures.held in k.held ∙ filled _ _ (omega (arith, length-append t (59 ∷ c.args.row.now), table-text-long c.args.t.0, c.requires))
