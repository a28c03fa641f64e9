-- The longest beginning that some card shares, field by field: a field that stands at the front is passed, and where none stands the place is
-- that of its columns. Assumes nothing.
use mathlib.Core.Path.{◌≡◌, refl, sym, ap, ◌∙◌}
use mathlib.Core.Logic.{⊎_elim}
use mathlib.Core.Bool.{true, false}
use mathlib.Core.List.{List, [], ◌∷◌, ◌++◌, append-nil}
use Prim.Native.Nat.{ℕ, suc, ◌+◌, ◌<◌, ◌≤◌}
use native.Mathlib.Omega.{arith}
use borrow.Author.Tests.{ltb-true}
use lib.Dec.{ltb, eqb}
use lib.ListN.{length, get_or, take, drop, replicate, length-append, length-drop, take-append-drop, drop_of_length-le}
use lib.Seq.{take_at, drop_at, length-take-le, get_or-take, take_all, drop-drop}
use Rattle.line.specs.Runs.{every}
use Rattle.line.proofs.Runs.{and_right}
use Rattle.text.specs.Classes.{between, is_letter, is_digit}
use Rattle.text.specs.Beginnings.{Shares, Longest}
use Rattle.text.proofs.Beginnings.{le-or-lt, longest-below}
use Rattle.values.specs.Registers.{is_account_character, good_account, good_row}
use Rattle.post.specs.Grammar.{Entry, rising}
use Rattle.post.proofs.Reading.{rising-number, rising-rest, rising-table, rising-row, rising-cons}
use Rattle.card.specs.Grammar.{account_field, table_field, table_fields, card_text, IsCard}
use Rattle.card.specs.Columns.{account_column, table_column, FirstStray, table_stands}
use Rattle.card.specs.Fields.{Fields, Passed}
use Rattle.post.proofs.Mixing.{mixed, length-mixed, same-mixed, mixed-fits}
use Rattle.card.proofs.Strays.{longest-stray}
use Rattle.card.proofs.Fields.{length-account, length-table, account-fits, table_fits, fits-account, fits-good, entry_in, Stands, fits-table, fits-stands, take-field, drop-field, length_none, length-cons, same-entry, take-account, drop-account}

-- what stands behind the fields may be nothing
pub no_fields : (tables above : ℕ) → Fields tables above []
unfolding table_fields rising
no_fields tables above = record { entries = []; good = refl; spelt = refl }

-- a table's field, with what may stand behind it
module _ (tables above : ℕ) (e : Entry) (low : above < e.number) (high : e.number ≤ tables) (good : good_row e.row ≡ true) where
  field-long : length (table_field e) ≡ 28
  field-long = length-table e good

  pub put-field : (t : List ℕ) → Fields tables e.number t → Fields tables above (table_field e ++ t)
  unfolding table_fields
  put-field t r =
      record {
        entries = e ∷ r.entries;
        good = rising-cons tables above e r.entries low high good r.good;
        spelt = ap (λ (l : List ℕ). table_field e ++ l) r.spelt;
      }

  behind : (v : List ℕ) (es : List Entry) → rising tables above es ≡ true → table_fields es ≡ v → take 28 v ≡ table_field e → Fields tables e.number (drop 28 v)
  behind v [] g t b =
      let none : length v ≡ 0 = ap length (sym t) ∙ length_none in
      absurd (omega (arith, ap length b, field-long, ap length (take_all 28 v (omega arith))))
  behind v (f ∷ fs) g t b =
      let same : f ≡ e = same-entry f e (rising-row tables above f fs g) good (sym (take-field tables above f fs g) ∙ ap (take 28) t ∙ b) in
      record {
        entries = fs;
        good = ap (λ (x : Entry). rising tables x.number fs) (sym same) ∙ rising-rest tables above f fs g;
        spelt = sym (drop-field tables above f fs g) ∙ ap (drop 28) t;
      }

  pub take-off : (t : List ℕ) → Fields tables above (table_field e ++ t) → Fields tables e.number t
  take-off t r =
      rw (drop_at (table_field e) t 28 field-long) at (behind (table_field e ++ t) r.entries r.good r.spelt (take_at (table_field e) t 28 field-long))

  -- the place behind a field counts from its end
  pub longest-behind : (t : List ℕ) (k : ℕ) → Longest (Fields tables e.number) t k → Longest (Fields tables above) (table_field e ++ t) (28 + k)
  longest-behind t k g =
      longest-below (Fields tables above) (Fields tables e.number) (table_field e) 28 field-long put-field (λ v r b. behind v r.entries r.good r.spelt b) t k g

-- the account's field, with what may stand behind it
module _ (tables : ℕ) (a : List ℕ) (good : good_account a ≡ true) where
  put-account : (t : List ℕ) → Fields tables 0 t → IsCard tables (account_field a ++ t)
  unfolding card_text
  put-account t r =
      record { account = a; entries = r.entries; good-account = good; good = r.good; spelt = ap (λ (l : List ℕ). account_field a ++ l) r.spelt }

  behind-account : (v : List ℕ) → IsCard tables v → take 13 v ≡ account_field a → Fields tables 0 (drop 13 v)
  behind-account v c b =
      record { entries = c.entries; good = c.good; spelt = sym (drop-account c.account c.entries c.good-account) ∙ ap (drop 13) c.spelt }

  pub passed-account : (t : List ℕ) → Passed tables (account_field a ++ t) 13 0
  passed-account t =
      let long = length-account a good in
      let d : drop 13 (account_field a ++ t) ≡ t = drop_at (account_field a) t 13 long in
      record {
        in-text = omega (arith, length-append (account_field a) t);
        onward = λ r. put-account t (rw d at r);
        back = λ c. behind-account (account_field a ++ t) c (take_at (account_field a) t 13 long);
        longest = λ k g. longest-below (IsCard tables) (Fields tables 0) (account_field a) 13 long put-account behind-account t k (rw d at g);
      }

-- one field further
pub passed-more : (tables above at : ℕ) (text : List ℕ) → Passed tables text at above → Stands tables above (drop at text) → Passed tables text (at + 28) (get_or (drop at text) 3 0)
passed-more tables above at text p st =
    let s = drop at text in
    let e = entry_in s in
    let d : drop 28 s ≡ drop (at + 28) text = drop-drop 28 at text in
    let f : s ≡ table_field e ++ drop (at + 28) text = st.front ∙ ap (λ (x : List ℕ). table_field e ++ x) d in
    let long = st.long in
    record {
      in-text = omega (arith, length-drop at text);
      onward = λ r. p.onward (rw f (put-field tables above e st.low st.high st.good-row (drop (at + 28) text) r));
      back = λ r. take-off tables above e st.low st.high st.good-row (drop (at + 28) text) (rw f at (p.back r));
      longest =
          λ k g.
          let w : at + (28 + k) ≡ (at + 28) + k = omega arith in
          (rw w at (p.longest (28 + k) (rw f (longest-behind tables above e st.low st.high st.good-row (drop (at + 28) text) k g))));
    }

-- an account and a row that are good
abbrev blank : List ℕ
blank = replicate 10 32

abbrev ones : List ℕ
ones = replicate 24 49

blank-good : good_account blank ≡ true
unfolding good_account every is_account_character is_letter is_digit between
blank-good = refl

ones-good : good_row ones ≡ true
unfolding good_row every between
ones-good = refl

-- a text of the first field alone
alone : (tables above : ℕ) (e : Entry) → above < e.number → e.number ≤ tables → good_row e.row ≡ true → Fields tables above (table_field e)
alone tables above e low high good = rw (append-nil (table_field e)) at (put-field tables above e low high good [] (no_fields tables e.number))

-- every column of the fields of good entries, as far as the first field goes
first_fits : (tables above : ℕ) (v : List ℕ) (e : Entry) (es : List Entry) → rising tables above (e ∷ es) ≡ true → table_fields (e ∷ es) ≡ v
    → (j : ℕ) → j < 28 → table_column tables above j (get_or v j 0) ≡ true
first_fits tables above v e es g t j h =
    ap (λ (l : List ℕ). table_column tables above j (get_or l j 0)) (sym t)
    ∙ ap (table_column tables above j) (sym (get_or-take 28 (table_fields (e ∷ es)) j 0 h) ∙ ap (λ (l : List ℕ). get_or l j 0) (take-field tables above e es g))
    ∙ table_fits tables above e (rising-number tables above e es g) (rising-table tables above e es g) (rising-row tables above e es g) j h

-- where a table's field strays
module _ (tables above : ℕ) (s : List ℕ) (place : ℕ) (f : FirstStray (table_column tables above) 28 s place) (short : place < 28) where
  fields_fit : (v : List ℕ) (es : List Entry) → rising tables above es ≡ true → table_fields es ≡ v → (j : ℕ) → j < 28 → j < length v → table_column tables above j (get_or v j 0) ≡ true
  fields_fit v [] g t j h k = absurd (omega (arith, length_none, ap length t))
  fields_fit v (e ∷ es) g t j h k = first_fits tables above v e es g t j h

  -- a tag stands only where some number may follow
  room : 0 < place → above < tables
  unfolding table_column
  room h = ltb-true above tables (and_right (eqb (get_or s 0 0) 2) (ltb above tables) (f.before 0 h))

  abbrev next : Entry
  next = record { number = suc above; row = ones }

  completed : 0 < place → Shares (Fields tables above) s place
  completed h =
      let high : suc above ≤ tables = room h in
      let sample = table_field next in
      let long = length-table next ones-good in
      let fits = table_fits tables above next (omega arith) high ones-good in
      let u = mixed place s sample in
      let lu = length-mixed place s sample f.in-text 28 f.in_field long in
      let st = fits-table tables above u (omega arith) (mixed-fits place s sample f.in-text (table_column tables above) 28 f.before fits) in
      record {
        other = table_field (entry_in u) ++ drop 28 u;
        is_whole = put-field tables above (entry_in u) st.low st.high st.good-row (drop 28 u) (rw (nothing_left u lu) (no_fields tables (get_or u 3 0)));
        within = f.in-text;
        within-other = rw (← st.front) (omega (arith, f.in_field));
        same = rw (← st.front) (same-mixed place s sample f.in-text);
      }
    where
      nothing_left : (u : List ℕ) → length u ≡ 28 → drop 28 u ≡ []
      nothing_left u h = drop_of_length-le u {i = 28} (omega arith)

  nothing-shared : place ≡ 0 → Shares (Fields tables above) s place
  nothing-shared z = record { other = []; is_whole = no_fields tables above; within = f.in-text; within-other = omega arith; same = rw z }

  pub longest-table : Longest (Fields tables above) s place
  longest-table =
      longest-stray (Fields tables above) (table_column tables above) 28 s place (λ v r. fields_fit v r.entries r.good r.spelt) f short
      (⊎_elim (λ h. nothing-shared (omega arith)) (λ h. completed h) (le-or-lt place 0))

-- where the account's field strays
module _ (tables : ℕ) (text : List ℕ) (place : ℕ) (f : FirstStray account_column 13 text place) (short : place < 13) where
  card-fits : (v : List ℕ) → IsCard tables v → (j : ℕ) → j < 13 → j < length v → account_column j (get_or v j 0) ≡ true
  card-fits v c j h k =
      ap (λ (l : List ℕ). account_column j (get_or l j 0)) (sym c.spelt)
      ∙ ap (account_column j) (sym (get_or-take 13 (card_text c.account c.entries) j 0 h) ∙ ap (λ (l : List ℕ). get_or l j 0) (take-account c.account c.entries c.good-account))
      ∙ account-fits c.account c.good-account j h

  account-shared : Shares (IsCard tables) text place
  account-shared =
      let sample = account_field blank in
      let long = length-account blank blank-good in
      let fits = account-fits blank blank-good in
      let u = mixed place text sample in
      let lu = length-mixed place text sample f.in-text 13 f.in_field long in
      let all = mixed-fits place text sample f.in-text account_column 13 f.before fits in
      let is : account_field (drop 3 u) ≡ u = sym (fits-account u lu all) in
      record {
        other = account_field (drop 3 u) ++ [];
        is_whole = put-account tables (drop 3 u) (fits-good u lu all) [] (no_fields tables 0);
        within = f.in-text;
        within-other = rw (append-nil (account_field (drop 3 u)), is) (omega (arith, f.in_field));
        same = rw (append-nil (account_field (drop 3 u)), is) (same-mixed place text sample f.in-text);
      }

  pub longest-account : Longest (IsCard tables) text place
  longest-account = longest-stray (IsCard tables) account_column 13 text place card-fits f short account-shared

  pub no-account : IsCard tables text → ⊥
  unfolding card_text
  no-account c =
      let long : 13 ≤ length text = omega (arith, ap length c.spelt, length-append (account_field c.account) (table_fields c.entries), length-account c.account c.good-account) in
      let held = card-fits text c place short (omega arith) in
      let strays = f.stops short (omega arith) in
      (let z : ◌≡◌ {A = ℕ} 0 1 = cc in omega arith)

-- the account's field stands in a text that fits in all 13 columns
pub account-passed : (tables : ℕ) (text : List ℕ) (place : ℕ) → FirstStray account_column 13 text place → 13 ≤ place → Passed tables text 13 0
account-passed tables text place f h =
    let u = take 13 text in
    let in-text = f.in-text in
    let long : length u ≡ 13 = length-take-le 13 text (omega arith) in
    let all : (j : ℕ) → j < 13 → account_column j (get_or u j 0) ≡ true = λ j k. ap (account_column j) (get_or-take 13 text j 0 k) ∙ f.before j (omega arith) in
    let w : account_field (drop 3 u) ++ drop 13 text ≡ text = ap (λ (l : List ℕ). l ++ drop 13 text) (sym (fits-account u long all)) ∙ take-append-drop 13 text in
    rw w at (passed-account tables (drop 3 u) (fits-good u long all) (drop 13 text))

-- nothing that may stand behind the fields is a text where no field stands
pub no-field-here : (tables above : ℕ) (s : List ℕ) → 0 < length s → table_stands tables above s ≡ false → Fields tables above s → ⊥
no-field-here tables above s some st r = none r.entries r.good r.spelt
  where
    none : (es : List Entry) → rising tables above es ≡ true → table_fields es ≡ s → ⊥
    none [] g t = omega (arith, length_none, ap length t)
    none (e ∷ es) g t =
        let long : 28 ≤ length s = omega (arith, length-cons tables above e es g, ap length t) in
        let held : table_stands tables above s ≡ true = fits-stands tables above s long (first_fits tables above s e es g t) in
        (let z : ◌≡◌ {A = ℕ} 0 1 = cc in omega arith)

-- where no field stands, a column strays
pub strays-there : (tables above : ℕ) (s : List ℕ) (place : ℕ) → table_stands tables above s ≡ false → FirstStray (table_column tables above) 28 s place → place < 28
strays-there tables above s place st f =
    ⊎_elim
    (λ h.
    let in-text = f.in-text in
    let held : table_stands tables above s ≡ true = fits-stands tables above s (omega arith) (λ j k. f.before j (omega arith)) in
    absurd (let z : ◌≡◌ {A = ℕ} 0 1 = cc in omega arith)) (λ h. h) (le-or-lt 28 place)
