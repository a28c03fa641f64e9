-- The fields of a state's tables, put in one after the other. Assumes nothing.
use mathlib.Core.Path.{◌≡◌, refl, sym, ap, ap₂, ◌∙◌}
use mathlib.Core.Bool.{true, false}
use mathlib.Core.List.{List, [], ◌∷◌, ◌++◌, append_assoc, append-nil}
use Prim.Native.Nat.{ℕ, zero, suc, ◌+◌, ◌-◌, ◌*◌, ◌%◌, ◌<◌, ◌≤◌}
use native.Mathlib.Omega.{arith}
use native.Mathlib.Numerals.{add-one}
use borrow.Author.Tests.{lt-ltb, le-ltb}
use lib.ListN.{length, take, drop, length-append, length-drop}
use lib.Seq.{length-take-le}
use Rattle.text.specs.Writing.{stored}
use Rattle.text.proofs.Writing.{and_then, stored-holding}
use Rattle.values.specs.Edition.{is_edition, tables_of}
use Rattle.values.proofs.Editions.{tables-most}
use Rattle.state.specs.declared.Meter.{Meter}
use Rattle.state.specs.WellFormed.{tables_in, edition_of, well_formed}
use Rattle.state.proofs.Parts.{long}
use Rattle.replies.specs.Shown.{row_of}
use Rattle.post.specs.Grammar.{Entry}
use Rattle.card.specs.Grammar.{account_field, table_field, table_fields, card_text}
use Rattle.card.proofs.Fields.{account-field, table-field}
use Rattle.cardwriting.specs.Writing.{entry_at, entries_from, card_of, unwritten, written_in, written_to}

-- the last table apart
fields_snoc : (above n : ℕ) (rows : List ℕ)
    → table_fields (entries_from above (suc n) rows) ≡ table_fields (entries_from above n rows) ++ table_field (entry_at rows (suc (above + n)))
unfolding table_fields entries_from
fields_snoc above zero rows =
    let k : suc above ≡ suc (above + 0) = omega arith in
    append-nil (table_field (entry_at rows (suc above))) ∙ ap (λ (i : ℕ). table_field (entry_at rows i)) k
fields_snoc above (suc n) rows =
    let k : suc (suc above + n) ≡ suc (above + suc n) = omega arith in
    ap (λ (l : List ℕ). table_field (entry_at rows (suc above)) ++ l) (fields_snoc (suc above) n rows)
    ∙ sym (append_assoc (table_field (entry_at rows (suc above))) (table_fields (entries_from (suc above) n rows)) (table_field (entry_at rows (suc (suc above + n)))))
    ∙ ap (λ (i : ℕ). (table_field (entry_at rows (suc above)) ++ table_fields (entries_from (suc above) n rows)) ++ table_field (entry_at rows i)) k

row-long : (rows : List ℕ) (i : ℕ) → 24 * i + 24 ≤ length rows → length (row_of rows (suc i)) ≡ 24
unfolding row_of
row-long rows i h = length-take-le 24 (drop ((suc i - 1) * 24) rows) (omega (arith, length-drop ((suc i - 1) * 24) rows))

length-field : (e : Entry) → length e.row ≡ 24 → length (table_field e) ≡ 28
length-field e h = ap length (table-field e h) ∙ omega arith

length_from : (above n : ℕ) (rows : List ℕ) → 24 * (above + n) ≤ length rows → length (table_fields (entries_from above n rows)) ≡ 28 * n
unfolding table_fields entries_from
length_from above zero rows h = refl
length_from above (suc n) rows h =
    omega (
      arith,
      length-append (table_field (entry_at rows (suc above))) (table_fields (entries_from (suc above) n rows)),
      length-field (entry_at rows (suc above)) (row-long rows above (omega arith)),
      length_from (suc above) n rows (omega arith),
    )

-- a field is four bytes and the row
pub field_put : (rows out mid : List ℕ) (i place : ℕ) (after : List ℕ) → i < 255 → 24 * i + 24 ≤ length rows
    → place ≡ 13 + 28 * i + 4 → mid ≡ stored out (13 + 28 * i) (2 ∷ 0 ∷ 25 ∷ ((i + 1) % 256) ∷ [])
    → after ≡ stored mid place (take (24 * i + 24 - 24 * i) (drop (24 * i) rows))
    → after ≡ stored out (13 + 28 * i) (table_field (entry_at rows (i + 1)))
field_put rows out mid i place after few h p e f =
    let n : (i + 1) % 256 ≡ suc i = omega arith in
    let w : 24 * i + 24 - 24 * i ≡ 24 = omega arith in
    let at : 24 * i ≡ (suc i - 1) * 24 = omega arith in
    let row : take (24 * i + 24 - 24 * i) (drop (24 * i) rows) ≡ row_of rows (suc i) = row_is w at in
    and_then out (13 + 28 * i) (2 ∷ 0 ∷ 25 ∷ ((i + 1) % 256) ∷ []) mid place (take (24 * i + 24 - 24 * i) (drop (24 * i) rows)) after e p f
    ∙ ap₂ (λ (x : ℕ) (r : List ℕ). stored out (13 + 28 * i) (2 ∷ 0 ∷ 25 ∷ x ∷ r)) n row
    ∙ ap (stored out (13 + 28 * i)) (sym (table-field (entry_at rows (suc i)) (row-long rows i h)))
    ∙ ap (λ (k : ℕ). stored out (13 + 28 * i) (table_field (entry_at rows k))) (sym (add-one i))
  where
    row_is : {k : ℕ} → k ≡ 24 → 24 * i ≡ (suc i - 1) * 24 → take k (drop (24 * i) rows) ≡ row_of rows (suc i)
    row_is w at = unfold row_of in ap₂ (λ (a b : ℕ). take a (drop b rows)) w at

-- one field more
pub fields-more : (rows out buf : List ℕ) (n : ℕ) (after : List ℕ) → 24 * n ≤ length rows → buf ≡ stored out 13 (table_fields (entries_from 0 n rows))
    → after ≡ stored buf (13 + 28 * n) (table_field (entry_at rows (n + 1))) → after ≡ stored out 13 (table_fields (entries_from 0 (n + 1) rows))
fields-more rows out buf n after h e f =
    let l = length_from 0 n rows (omega arith) in
    let k : n + 1 ≡ suc (0 + n) = omega arith in
    and_then out 13 (table_fields (entries_from 0 n rows)) buf (13 + 28 * n) (table_field (entry_at rows (n + 1))) after e (omega arith) f
    ∙ ap (λ (i : ℕ). stored out 13 (table_fields (entries_from 0 n rows) ++ table_field (entry_at rows i))) k
    ∙ ap (stored out 13) (sym (fields_snoc 0 n rows))
    ∙ ap (λ (i : ℕ). stored out 13 (table_fields (entries_from 0 i rows))) (sym (add-one n))

pub fields-none : (rows out : List ℕ) → out ≡ stored out 13 (table_fields (entries_from 0 0 rows))
unfolding stored table_fields entries_from
fields-none rows out = refl

-- the account's field, and the tables' behind it
pub card-put : (account rows out one two : List ℕ) (place n : ℕ) (after : List ℕ) → length account ≡ 10 → place ≡ 3
    → one ≡ stored out 0 (1 ∷ 0 ∷ 10 ∷ []) → two ≡ stored one place account → after ≡ stored two 13 (table_fields (entries_from 0 n rows))
    → after ≡ stored out 0 (card_text account (entries_from 0 n rows))
unfolding card_text
card-put account rows out one two place n after h p e f g =
    let front : two ≡ stored out 0 (account_field account) =
    and_then out 0 (1 ∷ 0 ∷ 10 ∷ []) one place account two e p f ∙ ap (stored out 0) (sym (account-field account h)) in
    let l : length (account_field account) ≡ 13 = ap length (account-field account h) ∙ omega arith in
    and_then out 0 (account_field account) two 13 (table_fields (entries_from 0 n rows)) after front (omega arith) g

pub length-card-of : (account rows : List ℕ) (n : ℕ) → length account ≡ 10 → 24 * n ≤ length rows → length (card_text account (entries_from 0 n rows)) ≡ 13 + 28 * n
unfolding card_text
length-card-of account rows n h k =
    let l : length (account_field account) ≡ 13 = ap length (account-field account h) ∙ omega arith in
    length-append (account_field account) (table_fields (entries_from 0 n rows)) ∙ ap₂ ◌+◌ l (length_from 0 n rows (omega arith))

-- the four answers
module _ (m : Meter) (out : List ℕ) where
  abbrev n : ℕ
  n = tables_in m.registers

  pub answers-16 : is_edition (edition_of m) ≡ false → (unwritten 16 ≡ written_in m out) × (out ≡ written_to m out)
  unfolding written_in written_to
  answers-16 e = (rw e, rw e)

  pub answers-14 : is_edition (edition_of m) ≡ true → well_formed m ≡ false → (unwritten 14 ≡ written_in m out) × (out ≡ written_to m out)
  unfolding written_in written_to
  answers-14 e w = (rw (e, w), rw (e, w))

  module _ (e : is_edition (edition_of m) ≡ true) (w : well_formed m ≡ true) (tables size : ℕ) (t : tables ≡ tables_of (edition_of m)) (z : size ≡ 13 + 28 * tables) where
    pub answers-41 : length out < size → (unwritten 41 ≡ written_in m out) × (out ≡ written_to m out)
    unfolding written_in written_to
    answers-41 h = let s = lt-ltb (length out) (13 + 28 * n) (omega (arith, h, t, z)) in (rw (e, w, s), rw (e, w, s))

    pub answers-1 : (after : List ℕ) → size ≤ length out → after ≡ stored out 0 (card_text m.registers.account (entries_from 0 tables m.registers.tables))
        → (record { number = 1; length = size } ≡ written_in m out) × (after ≡ written_to m out)
    unfolding written_in written_to card_of
    answers-1 after h f =
        let l = long m w in
        let card = card_text m.registers.account (entries_from 0 n m.registers.tables) in
        let k = length-card-of m.registers.account m.registers.tables n l.account (omega (arith, l.tables, tables-most (edition_of m))) in
        let s = le-ltb (length out) (13 + 28 * n) (omega (arith, h, t, z)) in
        let is : after ≡ stored out 0 card = f ∙ ap (λ (i : ℕ). stored out 0 (card_text m.registers.account (entries_from 0 i m.registers.tables))) t in
        (rw (e, w, s, z, t), rw (e, w, s) (is ∙ stored-holding out card (omega (arith, h, t, z, k))))
