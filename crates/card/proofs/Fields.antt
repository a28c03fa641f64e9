-- The two fields, column by column: what they hold, and that just that is such a field; and that a card has one reading. Assumes nothing.
use mathlib.Core.Path.{◌≡◌, refl, sym, ap, ap₂, ◌∙◌}
use mathlib.Core.Bool.{true, ◌&&◌}
use mathlib.Core.List.{List, [], ◌∷◌, ◌++◌}
use Prim.Native.Nat.{ℕ, zero, suc, ◌+◌, ◌*◌, ◌<◌, ◌≤◌}
use native.Mathlib.Omega.{arith}
use borrow.Author.Tests.{leb-true, ltb-true, eqb-true, eq-eqb, ne_eqb, lt-ltb, le-leb}
use lib.Dec.{eqb, ltb, leb}
use lib.ListN.{length, get_or, take, drop, length-append, length-drop, take-append-drop}
use lib.Seq.{drop-cons, take_at, drop_at, get_or-drop, get_or-take, length-take-le, drop-drop}
use Rattle.line.specs.Runs.{every}
use Rattle.line.proofs.Runs.{and_left, and_right, and_both, every-at}
use Rattle.text.specs.Classes.{between}
use Rattle.values.specs.Registers.{is_account_character, good_account, good_row}
use Rattle.post.specs.Grammar.{Entry, rising}
use Rattle.post.proofs.Lines.{row-length, row-zones, every_of}
use Rattle.post.proofs.Reading.{rising-rest, rising-row, count_entries}
use Rattle.card.specs.Grammar.{field_text, account_field, table_field, table_fields, card_text, IsCard}
use Rattle.card.specs.Columns.{account_column, table_column, table_stands}

pub account-length : (a : List ℕ) → good_account a ≡ true → length a ≡ 10
unfolding good_account
account-length a g = eqb-true (length a) 10 (and_left (eqb (length a) 10) (every is_account_character a) g)

pub account-field : (a : List ℕ) → length a ≡ 10 → account_field a ≡ 1 ∷ 0 ∷ 10 ∷ a
unfolding account_field field_text
account-field a h = rw h

pub table-field : (e : Entry) → length e.row ≡ 24 → table_field e ≡ 2 ∷ 0 ∷ 25 ∷ e.number ∷ e.row
unfolding table_field field_text
table-field e h = rw h

pub length-account : (a : List ℕ) → good_account a ≡ true → length (account_field a) ≡ 13
length-account a g = let h = account-length a g in ap length (account-field a h) ∙ omega arith

pub length-table : (e : Entry) → good_row e.row ≡ true → length (table_field e) ≡ 28
length-table e g = let h = row-length e.row g in ap length (table-field e h) ∙ omega arith

-- behind the head of a field each column is tested alike
late-account : (j c : ℕ) → 3 ≤ j → account_column j c ≡ is_account_character c
unfolding account_column
late-account j c h = rw (ne_eqb j 0 (λ e. omega arith), ne_eqb j 1 (λ e. omega arith), ne_eqb j 2 (λ e. omega arith))

late-table : (tables above j c : ℕ) → 4 ≤ j → table_column tables above j c ≡ between 49 52 c
unfolding table_column
late-table tables above j c h =
    rw (ne_eqb j 0 (λ e. omega arith), ne_eqb j 1 (λ e. omega arith), ne_eqb j 2 (λ e. omega arith), ne_eqb j 3 (λ e. omega arith))

account-columns : (a : List ℕ) → good_account a ≡ true → (j : ℕ) → j < 13 → account_column j (get_or (1 ∷ 0 ∷ 10 ∷ a) j 0) ≡ true
account-columns a g zero h = unfold account_column in refl
account-columns a g (suc zero) h = unfold account_column in refl
account-columns a g (suc (suc zero)) h = unfold account_column in refl
account-columns a g (suc (suc (suc i))) h =
    late-account (suc (suc (suc i))) (get_or a i 0) (omega arith) ∙ every-at is_account_character a (characters a g) i (omega (arith, account-length a g))
  where
    characters : (a : List ℕ) → good_account a ≡ true → every is_account_character a ≡ true
    characters a g = unfold good_account in and_right (eqb (length a) 10) (every is_account_character a) g

-- every column of the account's field
pub account-fits : (a : List ℕ) → good_account a ≡ true → (j : ℕ) → j < 13 → account_column j (get_or (account_field a) j 0) ≡ true
account-fits a g j h = ap (λ (l : List ℕ). account_column j (get_or l j 0)) (account-field a (account-length a g)) ∙ account-columns a g j h

module _ (tables above n : ℕ) (row : List ℕ) (low : above < n) (high : n ≤ tables) (good : good_row row ≡ true) where
  table-columns : (j : ℕ) → j < 28 → table_column tables above j (get_or (2 ∷ 0 ∷ 25 ∷ n ∷ row) j 0) ≡ true
  table-columns zero h = unfold table_column in (let t : above < tables = omega arith in rw (lt-ltb above tables t))
  table-columns (suc zero) h = unfold table_column in refl
  table-columns (suc (suc zero)) h = unfold table_column in refl
  table-columns (suc (suc (suc zero))) h = unfold table_column in (rw (lt-ltb above n low, le-leb n tables high))
  table-columns (suc (suc (suc (suc i)))) h =
      late-table tables above (suc (suc (suc (suc i)))) (get_or row i 0) (omega arith) ∙ every-at (between 49 52) row (row-zones row good) i (omega (arith, row-length row good))

-- every column of a table's field that may follow
pub table_fits : (tables above : ℕ) (e : Entry) → above < e.number → e.number ≤ tables → good_row e.row ≡ true
    → (j : ℕ) → j < 28 → table_column tables above j (get_or (table_field e) j 0) ≡ true
table_fits tables above e low high good j h =
    ap (λ (l : List ℕ). table_column tables above j (get_or l j 0)) (table-field e (row-length e.row good)) ∙ table-columns tables above e.number e.row low high good j h

-- a text that fits in all columns is the account's field
module _ (u : List ℕ) (long : length u ≡ 13) (all : (j : ℕ) → j < 13 → account_column j (get_or u j 0) ≡ true) where
  ten-left : length (drop 3 u) ≡ 10
  ten-left = omega (arith, length-drop 3 u)

  head-account : (get_or u 0 0 ≡ 1) × (get_or u 1 0 ≡ 0) × (get_or u 2 0 ≡ 10)
  unfolding account_column
  head-account = (eqb-true (get_or u 0 0) 1 (all 0 (omega arith)), eqb-true (get_or u 1 0) 0 (all 1 (omega arith)), eqb-true (get_or u 2 0) 10 (all 2 (omega arith)))

  pub fits-account : u ≡ account_field (drop 3 u)
  fits-account =
      drop-cons u 0 0 (omega arith)
      ∙ ap₂ ◌∷◌ head-account.0
      (drop-cons u 1 0 (omega arith) ∙ ap₂ ◌∷◌ head-account.1 (drop-cons u 2 0 (omega arith) ∙ ap (λ (x : ℕ). x ∷ drop 3 u) head-account.2))
      ∙ sym (account-field (drop 3 u) ten-left)

  pub fits-good : good_account (drop 3 u) ≡ true
  unfolding good_account
  fits-good =
      and_both (eqb (length (drop 3 u)) 10) (every is_account_character (drop 3 u)) (eq-eqb (length (drop 3 u)) 10 ten-left)
      (every_of is_account_character (drop 3 u)
      (λ i h.
      ap is_account_character (get_or-drop 3 u i 0)
      ∙ sym (late-account (3 + i) (get_or u (3 + i) 0) (omega arith))
      ∙ all (3 + i) (omega (arith, ten-left))))

-- the entry that a text says in the place of a table's field
abbrev pub entry_in : List ℕ → Entry
entry_in s = record { number = get_or s 3 0; row = take 24 (drop 4 s) }

-- what a table's field at the front says
pub record Stands (tables above : ℕ) (s : List ℕ) : Type 0 where
  pub long : 28 ≤ length s
  pub low : above < get_or s 3 0
  pub high : get_or s 3 0 ≤ tables
  pub good-row : good_row (take 24 (drop 4 s)) ≡ true
  pub front : s ≡ table_field (entry_in s) ++ drop 28 s

row-good : (s : List ℕ) → 28 ≤ length s → every (between 49 52) (take 24 (drop 4 s)) ≡ true → good_row (take 24 (drop 4 s)) ≡ true
unfolding good_row
row-good s h z =
    let l : length (take 24 (drop 4 s)) ≡ 24 = length-take-le 24 (drop 4 s) (omega (arith, length-drop 4 s)) in
    and_both (eqb (length (take 24 (drop 4 s))) 24) (every (between 49 52) (take 24 (drop 4 s))) (eq-eqb (length (take 24 (drop 4 s))) 24 l) z

stands_of : (tables above : ℕ) (s : List ℕ) → 28 ≤ length s → get_or s 0 0 ≡ 2 → get_or s 1 0 ≡ 0 → get_or s 2 0 ≡ 25 → above < get_or s 3 0 → get_or s 3 0 ≤ tables
    → every (between 49 52) (take 24 (drop 4 s)) ≡ true → Stands tables above s
stands_of tables above s h a b d low high z =
    let row = take 24 (drop 4 s) in
    let l : length row ≡ 24 = length-take-le 24 (drop 4 s) (omega (arith, length-drop 4 s)) in
    record {
      long = h;
      low = low;
      high = high;
      good-row = row-good s h z;
      front =
          drop-cons s 0 0 (omega arith)
          ∙ ap₂ ◌∷◌ a
          (drop-cons s 1 0 (omega arith)
          ∙ ap₂ ◌∷◌ b
          (drop-cons s 2 0 (omega arith)
          ∙ ap₂ ◌∷◌ d
          (drop-cons s 3 0 (omega arith)
          ∙ ap (λ (t : List ℕ). get_or s 3 0 ∷ t) (sym (take-append-drop 24 (drop 4 s)) ∙ ap (λ (t : List ℕ). row ++ t) (drop-drop 24 4 s)))))
          ∙ ap (λ (t : List ℕ). t ++ drop 28 s) (sym (table-field (entry_in s) l));
    }

pub stands : (tables above : ℕ) (s : List ℕ) → table_stands tables above s ≡ true → Stands tables above s
unfolding table_stands
stands tables above s e =
    let head = (eqb (get_or s 0 0) 2 && eqb (get_or s 1 0) 0) && eqb (get_or s 2 0) 25 in
    let follows = ltb above (get_or s 3 0) && leb (get_or s 3 0) tables in
    let zones = every (between 49 52) (take 24 (drop 4 s)) in
    let l = leb-true 28 (length s) (and_left (leb 28 (length s)) (head && (follows && zones)) e) in
    let r = and_right (leb 28 (length s)) (head && (follows && zones)) e in
    let t = and_left head (follows && zones) r in
    let q = and_right head (follows && zones) r in
    let f = and_left follows zones q in
    let two = and_left (eqb (get_or s 0 0) 2 && eqb (get_or s 1 0) 0) (eqb (get_or s 2 0) 25) t in
    stands_of tables above s l (eqb-true (get_or s 0 0) 2 (and_left (eqb (get_or s 0 0) 2) (eqb (get_or s 1 0) 0) two))
    (eqb-true (get_or s 1 0) 0 (and_right (eqb (get_or s 0 0) 2) (eqb (get_or s 1 0) 0) two))
    (eqb-true (get_or s 2 0) 25 (and_right (eqb (get_or s 0 0) 2 && eqb (get_or s 1 0) 0) (eqb (get_or s 2 0) 25) t))
    (ltb-true above (get_or s 3 0) (and_left (ltb above (get_or s 3 0)) (leb (get_or s 3 0) tables) f))
    (leb-true (get_or s 3 0) tables (and_right (ltb above (get_or s 3 0)) (leb (get_or s 3 0) tables) f)) (and_right follows zones q)

-- 28 columns that fit are a table's field
module _ (tables above : ℕ) (s : List ℕ) (long : 28 ≤ length s) (all : (j : ℕ) → j < 28 → table_column tables above j (get_or s j 0) ≡ true) where
  zones-fit : every (between 49 52) (take 24 (drop 4 s)) ≡ true
  zones-fit =
      let l : length (take 24 (drop 4 s)) ≡ 24 = length-take-le 24 (drop 4 s) (omega (arith, length-drop 4 s)) in
      every_of (between 49 52) (take 24 (drop 4 s))
      (λ i h.
      ap (between 49 52) (get_or-take 24 (drop 4 s) i 0 (omega arith) ∙ get_or-drop 4 s i 0)
      ∙ sym (late-table tables above (4 + i) (get_or s (4 + i) 0) (omega arith))
      ∙ all (4 + i) (omega arith))

  head-table : (get_or s 0 0 ≡ 2) × (get_or s 1 0 ≡ 0) × (get_or s 2 0 ≡ 25) × (above < get_or s 3 0) × (get_or s 3 0 ≤ tables)
  unfolding table_column
  head-table = (
    eqb-true (get_or s 0 0) 2 (and_left (eqb (get_or s 0 0) 2) (ltb above tables) (all 0 (omega arith))),
    eqb-true (get_or s 1 0) 0 (all 1 (omega arith)),
    eqb-true (get_or s 2 0) 25 (all 2 (omega arith)),
    ltb-true above (get_or s 3 0) (and_left (ltb above (get_or s 3 0)) (leb (get_or s 3 0) tables) (all 3 (omega arith))),
    leb-true (get_or s 3 0) tables (and_right (ltb above (get_or s 3 0)) (leb (get_or s 3 0) tables) (all 3 (omega arith))),
  )

  pub fits-table : Stands tables above s
  fits-table = let h = head-table in stands_of tables above s long h.0 h.1 h.2 h.3 h.4 zones-fit

  pub fits-stands : table_stands tables above s ≡ true
  unfolding table_stands
  fits-stands =
      let h = head-table in
      rw (
        le-leb 28 (length s) long,
        eq-eqb (get_or s 0 0) 2 h.0,
        eq-eqb (get_or s 1 0) 0 h.1,
        eq-eqb (get_or s 2 0) 25 h.2,
        lt-ltb above (get_or s 3 0) h.3,
        le-leb (get_or s 3 0) tables h.4,
        zones-fit,
      )

-- the first field of good entries, and what stands behind it
module _ (tables above : ℕ) (e : Entry) (es : List Entry) (g : rising tables above (e ∷ es) ≡ true) where
  pub length-first : length (table_field e) ≡ 28
  length-first = length-table e (rising-row tables above e es g)

  pub take-field : take 28 (table_fields (e ∷ es)) ≡ table_field e
  unfolding table_fields
  take-field = take_at (table_field e) (table_fields es) 28 length-first

  pub drop-field : drop 28 (table_fields (e ∷ es)) ≡ table_fields es
  unfolding table_fields
  drop-field = drop_at (table_field e) (table_fields es) 28 length-first

  pub length-cons : length (table_fields (e ∷ es)) ≡ 28 + length (table_fields es)
  unfolding table_fields
  length-cons = length-append (table_field e) (table_fields es) ∙ ap (λ (k : ℕ). k + length (table_fields es)) length-first

pub length_none : length (table_fields []) ≡ 0
unfolding table_fields
length_none = refl

-- two fields with the same text say the same
pub same-entry : (e f : Entry) → good_row e.row ≡ true → good_row f.row ≡ true → table_field e ≡ table_field f → e ≡ f
same-entry e f g h t =
    let w : 2 ∷ 0 ∷ 25 ∷ e.number ∷ e.row ≡ 2 ∷ 0 ∷ 25 ∷ f.number ∷ f.row =
    sym (table-field e (row-length e.row g)) ∙ t ∙ table-field f (row-length f.row h) in
    ap₂ (λ (n : ℕ) (r : List ℕ). record { number = n; row = r }) (ap (λ (l : List ℕ). get_or l 3 0) w) (ap (drop 4) w)

pub same_entries : (tables a b : ℕ) (es fs : List Entry) → rising tables a es ≡ true → rising tables b fs ≡ true → table_fields es ≡ table_fields fs → es ≡ fs
same_entries tables a b [] [] g h t = refl
same_entries tables a b [] (f ∷ fs) g h t = absurd (omega (arith, length_none, length-cons tables b f fs h, ap length t))
same_entries tables a b (e ∷ es) [] g h t = absurd (omega (arith, length_none, length-cons tables a e es g, ap length t))
same_entries tables a b (e ∷ es) (f ∷ fs) g h t =
    ap₂ ◌∷◌
    (same-entry e f (rising-row tables a e es g) (rising-row tables b f fs h) (sym (take-field tables a e es g) ∙ ap (take 28) t ∙ take-field tables b f fs h))
    (same_entries tables e.number f.number es fs (rising-rest tables a e es g) (rising-rest tables b f fs h)
    (sym (drop-field tables a e es g) ∙ ap (drop 28) t ∙ drop-field tables b f fs h))

-- the account's field, and what stands behind it
module _ (a : List ℕ) (es : List Entry) (g : good_account a ≡ true) where
  pub take-account : take 13 (card_text a es) ≡ account_field a
  unfolding card_text
  take-account = take_at (account_field a) (table_fields es) 13 (length-account a g)

  pub drop-account : drop 13 (card_text a es) ≡ table_fields es
  unfolding card_text
  drop-account = drop_at (account_field a) (table_fields es) 13 (length-account a g)

pub same-account : (a b : List ℕ) → good_account a ≡ true → good_account b ≡ true → account_field a ≡ account_field b → a ≡ b
same-account a b g h t =
    let w : 1 ∷ 0 ∷ 10 ∷ a ≡ 1 ∷ 0 ∷ 10 ∷ b = sym (account-field a (account-length a g)) ∙ t ∙ account-field b (account-length b h) in
    ap (drop 3) w

-- one reading: a text is a card of one account and of one list of entries
pub one-card : (tables : ℕ) (text : List ℕ) (p q : IsCard tables text) → (p.account ≡ q.account) × (p.entries ≡ q.entries)
one-card tables text p q =
    let t = p.spelt ∙ sym q.spelt in (
      same-account p.account q.account p.good-account q.good-account
          (sym (take-account p.account p.entries p.good-account) ∙ ap (take 13) t ∙ take-account q.account q.entries q.good-account),
      same_entries tables 0 0 p.entries q.entries p.good q.good
          (sym (drop-account p.account p.entries p.good-account) ∙ ap (drop 13) t ∙ drop-account q.account q.entries q.good-account),
    )

-- 28 bytes a table
pub length_fields : (tables above : ℕ) (es : List Entry) → rising tables above es ≡ true → length (table_fields es) ≡ 28 * length es
length_fields tables above [] g = length_none
length_fields tables above (e ∷ es) g =
    omega (arith, length-cons tables above e es g, length_fields tables e.number es (rising-rest tables above e es g))

-- 13 bytes, and 28 a table
pub length-card : (tables : ℕ) (text : List ℕ) (p : IsCard tables text) → length text ≡ 13 + 28 * length p.entries
unfolding card_text
length-card tables text p =
    ap length (sym p.spelt)
    ∙ length-append (account_field p.account) (table_fields p.entries)
    ∙ ap₂ ◌+◌ (length-account p.account p.good-account) (length_fields tables 0 p.entries p.good)

-- no more tables than there are
pub tables-bound : (tables : ℕ) (text : List ℕ) (p : IsCard tables text) → length p.entries ≤ tables
tables-bound tables text p = omega (arith, count_entries tables 0 p.entries (omega arith) p.good)
