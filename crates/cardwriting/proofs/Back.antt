-- A card written from a state is a card, and is read back to the state's own account and rows. Assumes nothing.
use mathlib.Core.Path.{◌≡◌, refl}
use mathlib.Core.Bool.{true}
use mathlib.Core.List.{List}
use Prim.Native.Nat.{ℕ, zero, suc, ◌+◌, ◌*◌, ◌<◌, ◌≤◌}
use native.Mathlib.Omega.{arith}
use borrow.Author.Tests.{eq-eqb}
use lib.Dec.{eqb}
use lib.ListN.{length, take}
use Rattle.line.specs.Runs.{every}
use Rattle.line.proofs.Runs.{and_both}
use Rattle.text.specs.Classes.{between}
use Rattle.values.specs.Registers.{good_account, good_row}
use Rattle.values.proofs.Editions.{tables-most}
use Rattle.state.specs.declared.Registers.{Registers}
use Rattle.state.specs.declared.Meter.{Meter}
use Rattle.state.specs.Sizes.{row_length, table_places}
use Rattle.state.specs.WellFormed.{tables_in, well_formed, tables_good}
use Rattle.state.proofs.Parts.{formed, formed-registers, rows_long, rows-held}
use Rattle.replies.specs.Shown.{row_of}
use Rattle.replies.proofs.Sizes.{row-long}
use Rattle.replies.proofs.Good.{row-zones}
use Rattle.post.specs.Grammar.{rising}
use Rattle.post.proofs.Reading.{rising-cons}
use Rattle.card.specs.Grammar.{IsCard}
use Rattle.card.proofs.Fields.{one-card}
use Rattle.cardwriting.specs.Writing.{entry_at, entries_from, card_of}

row-good : (n : ℕ) (rows : List ℕ) (i : ℕ) → i < n → 24 * n ≤ length rows → every (between 49 52) (take (n * row_length) rows) ≡ true → good_row (row_of rows (suc i)) ≡ true
unfolding good_row
row-good n rows i h l z =
    and_both (eqb (length (row_of rows (suc i))) 24) (every (between 49 52) (row_of rows (suc i)))
    (eq-eqb (length (row_of rows (suc i))) 24 (row-long rows i (omega arith))) (row-zones n rows z i h)

-- the tables of a state rise
pub entries-rise : (n above k : ℕ) (rows : List ℕ) → above + k ≤ n → 24 * n ≤ length rows → every (between 49 52) (take (n * row_length) rows) ≡ true
    → rising n above (entries_from above k rows) ≡ true
unfolding entries_from
entries-rise n above zero rows h l z = unfold rising in refl
entries-rise n above (suc k) rows h l z =
    rising-cons n above (entry_at rows (suc above)) (entries_from (suc above) k rows) (omega arith) (omega arith) (row-good n rows above (omega arith) l z)
    (entries-rise n (suc above) k rows (omega arith) l z)

-- good registers have a card
pub card-of : (n : ℕ) (g : Registers) → n ≤ table_places → good_account g.account ≡ true → tables_good n g.tables ≡ true → IsCard n (card_of n g)
unfolding card_of
card-of n g few a t =
    let rows = g.tables in
    record {
      account = g.account;
      entries = entries_from 0 n rows;
      good-account = a;
      good = entries-rise n 0 n rows (omega arith) (omega (arith, few, rows_long n rows t)) (rows-held n rows t);
      spelt = refl;
    }

-- a well-formed state has a card
pub card-of-state : (m : Meter) → well_formed m ≡ true → IsCard (tables_in m.registers) (card_of (tables_in m.registers) m.registers)
card-of-state m w =
    let f = formed-registers m.registers (formed m w).registers in
    card-of (tables_in m.registers) m.registers (tables-most m.registers.facts.edition) f.account f.tables

-- whoever reads it finds the same account and all rows
pub reads-back : (n : ℕ) (g : Registers) → n ≤ table_places → good_account g.account ≡ true → tables_good n g.tables ≡ true → (p : IsCard n (card_of n g))
    → (p.account ≡ g.account) × (p.entries ≡ entries_from 0 n g.tables)
unfolding card-of
reads-back n g few a t p = one-card n (card_of n g) p (card-of n g few a t)
