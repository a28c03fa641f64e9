-- `cardwriting::put_fields` meets its contract: what is written so far is the fields of the tables gone through. Assumes nothing.
use mathlib.Core.Path.{◌≡◌}
use Prim.Native.Nat.{◌≤◌}
use lib.ListN.{length}
use Rattle.text.specs.Writing.{stored}
use Rattle.card.specs.Grammar.{table_fields}
use Rattle.cardwriting.specs.Writing.{entries_from}
use Rattle.cardwriting.proofs.put_fields.Given as goal

abbrev pub invariant-loop-i : goal.invariant-loop-i
invariant-loop-i l = (l.i ≤ l.tables) × (length l.out ≡ length l.initial.out) × (l.out ≡ stored l.initial.out 13 (table_fields (entries_from 0 l.i l.rows)))
