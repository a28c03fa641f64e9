-- The frames of a card's fields, one by one, are those of its account and its entries; what the reader answers, from what the check does; and
-- any two right answers are equal, with every byte of the buffer. Assumes nothing.
use mathlib.Core.Path.{◌≡◌, refl, sym, ap, ap₂, ◌∙◌}
use mathlib.Core.Logic.{inl, inr}
use mathlib.Core.Bool.{true}
use mathlib.Core.List.{List, [], ◌∷◌, ◌++◌, append_assoc, append-nil}
use Prim.Native.Nat.{ℕ, zero, suc, ◌+◌, ◌-◌, ◌*◌, ◌/◌, ◌%◌, ◌<◌, ◌≤◌}
use native.Mathlib.Omega.{arith}
use native.Mathlib.Numerals.{add-one}
use lib.ListN.{length, get_or, take, drop, length-append, length-map, length-drop}
use lib.Seq.{get_or-drop, drop-append-add, take_at, drop-drop, length-take-le}
use Rattle.line.specs.Characters.{sent}
use Rattle.text.specs.Decimal.{decimal}
use Rattle.text.specs.Layout.{layout_text}
use Rattle.text.specs.Writing.{stored, holding}
use Rattle.text.proofs.Beginnings.{one-longest}
use Rattle.text.proofs.Writing.{and_then, stored-holding, filled}
use Rattle.values.specs.Texts.{table_text}
use Rattle.values.specs.Registers.{good_row}
use Rattle.frames.specs.Frames.{sealed, frame_of, on_wire}
use Rattle.frames.specs.Commands.{W1, bracketed, set_account, set_table}
use Rattle.frames.proofs.Closing.{sealed-length}
use Rattle.frames.proofs.Table.{length-table-frame}
use Rattle.post.specs.Grammar.{Entry, rising}
use Rattle.post.proofs.Lines.{row-length}
use Rattle.post.proofs.Reading.{rising-row, rising-rest}
use Rattle.export.specs.Frames.{entry_frame, frames_of}
use Rattle.std.specs.Prelude.{Result, Ok, Err, IsErrAnd}
use Rattle.card.specs.declared.Refusal.{Refusal}
use Rattle.card.specs.declared.Refusal.TheVariants as refusal
use Rattle.card.specs.Refusals.{refusal_number, refusal_place, answer_number, answer_length, answer_place}
use Rattle.card.specs.Grammar.{table_field, table_fields, card_text, IsCard}
use Rattle.card.specs.Place.{Refused, CheckedAs}
use Rattle.card.specs.Frames.{account_frame, card_frames, frames_length, field_frame, field_frames, text_frames, ReadAs}
use Rattle.card.proofs.Fields.{account-length, account-field, table-field, length-first, drop-account, length-card, tables-bound, one-card}

-- the frames as `sealed` starts and contents
pub account-sealed : (a : List ℕ) → sealed ((1 ∷ 87 ∷ 49 ∷ 2 ∷ 75 ∷ 40 ∷ []) ++ (a ++ (41 ∷ []))) ≡ frame_of W1 (set_account a)
unfolding sealed frame_of set_account bracketed
account-sealed a = refl

pub table-sealed : (n : ℕ) (row : List ℕ)
    → sealed ((1 ∷ 87 ∷ 49 ∷ 2 ∷ 90 ∷ 40 ∷ (48 + n / 10 % 10) ∷ (48 + n % 10) ∷ 59 ∷ []) ++ (row ++ (41 ∷ []))) ≡ frame_of W1 (set_table n row)
unfolding sealed frame_of set_table bracketed table_text layout_text decimal
table-sealed n row = refl

pub length-account-frame : (a : List ℕ) → length a ≡ 10 → length (account_frame a) ≡ 19
unfolding account_frame
length-account-frame a h =
    let m = (1 ∷ 87 ∷ 49 ∷ 2 ∷ 75 ∷ 40 ∷ []) ++ (a ++ (41 ∷ [])) in
    let l : length m ≡ 17 = rw (length-append a (41 ∷ []), h) in
    length-map (frame_of W1 (set_account a)) sent ∙ ap length (sym (account-sealed a)) ∙ sealed-length m (omega arith) ∙ omega arith

-- a message that fills what it is put into
pub held_whole : (buf m : List ℕ) → length m ≡ length buf → holding buf m ≡ m
held_whole buf m e = sym (stored-holding buf m (omega arith)) ∙ filled buf m e

pub length-row-frame : (n : ℕ) (row : List ℕ) → length row ≡ 24 → length (on_wire (frame_of W1 (set_table n row))) ≡ 36
length-row-frame n row h = length-map (frame_of W1 (set_table n row)) sent ∙ length-table-frame n row h

row-there : (s : List ℕ) → 28 ≤ length s → length (take 24 (drop 4 s)) ≡ 24
row-there s h = length-take-le 24 (drop 4 s) (omega (arith, length-drop 4 s))

pub length-field-frame : (s : List ℕ) → 28 ≤ length s → length (field_frame s) ≡ 36
unfolding field_frame
length-field-frame s h = length-row-frame (get_or s 3 0) (take 24 (drop 4 s)) (row-there s h)

-- the frame of a field, from the places of its number and of its row
pub frame_at : (text : List ℕ) (i : ℕ)
    → on_wire (frame_of W1 (set_table (get_or text (17 + 28 * i - 1) 0) (take (17 + 28 * i + 24 - (17 + 28 * i)) (drop (17 + 28 * i) text)))) ≡ field_frame (drop (13 + 28 * i) text)
unfolding field_frame
frame_at text i =
    let n : get_or text (17 + 28 * i - 1) 0 ≡ get_or (drop (13 + 28 * i) text) 3 0 = ap (λ (k : ℕ). get_or text k 0) (omega arith) ∙ sym (get_or-drop (13 + 28 * i) text 3 0) in
    let start : 17 + 28 * i ≡ 13 + 28 * i + 4 = omega arith in
    let w : 17 + 28 * i + 24 - (17 + 28 * i) ≡ 24 = omega arith in
    let d : drop (17 + 28 * i) text ≡ drop 4 (drop (13 + 28 * i) text) = ap (λ (k : ℕ). drop k text) start ∙ sym (drop-drop 4 (13 + 28 * i) text) in
    ap₂ (λ (x : ℕ) (r : List ℕ). on_wire (frame_of W1 (set_table x r))) n (ap₂ take w d)

pub length-field-frames : (s : List ℕ) (n : ℕ) → 28 * n ≤ length s → length (field_frames s n) ≡ 36 * n
unfolding field_frames
length-field-frames s zero h = refl
length-field-frames s (suc n) h =
    omega (
      arith,
      length-append (field_frames s n) (field_frame (drop (28 * n) s)),
      length-field-frames s n (omega arith),
      length-field-frame (drop (28 * n) s) (omega (arith, length-drop (28 * n) s)),
    )

pub length-text-frames : (text : List ℕ) (n : ℕ) → 13 + 28 * n ≤ length text → length (text_frames text n) ≡ 19 + 36 * n
unfolding text_frames
length-text-frames text n h =
    omega (
      arith,
      length-append (account_frame (take 10 (drop 3 text))) (field_frames (drop 13 text) n),
      length-account-frame (take 10 (drop 3 text)) (length-take-le 10 (drop 3 text) (omega (arith, length-drop 3 text))),
      length-field-frames (drop 13 text) n (omega (arith, length-drop 13 text)),
    )

-- a table's frame behind what was written, and all of them behind the account's
pub tables_more : (text out buf : List ℕ) (n : ℕ) (after : List ℕ) → 13 + 28 * n ≤ length text → buf ≡ stored out 19 (field_frames (drop 13 text) n)
    → after ≡ stored buf (19 + 36 * n) (field_frame (drop (13 + 28 * n) text)) → after ≡ stored out 19 (field_frames (drop 13 text) (n + 1))
unfolding field_frames
tables_more text out buf n after h e f =
    let s = drop 13 text in
    let l = length-field-frames s n (omega (arith, length-drop 13 text)) in
    and_then out 19 (field_frames s n) buf (19 + 36 * n) (field_frame (drop (13 + 28 * n) text)) after e (omega arith) f
    ∙ ap (λ (t : List ℕ). stored out 19 (field_frames s n ++ field_frame t)) (sym (drop-drop (28 * n) 13 text))
    ∙ (rw (add-one n))

pub frames-whole : (text out buf : List ℕ) (n : ℕ) (after : List ℕ) → 13 + 28 * n ≤ length text → buf ≡ stored out 0 (account_frame (take 10 (drop 3 text)))
    → after ≡ stored buf 19 (field_frames (drop 13 text) n) → after ≡ stored out 0 (text_frames text n)
unfolding text_frames
frames-whole text out buf n after h e f =
    let l = length-account-frame (take 10 (drop 3 text)) (length-take-le 10 (drop 3 text) (omega (arith, length-drop 3 text))) in
    and_then out 0 (account_frame (take 10 (drop 3 text))) buf 19 (field_frames (drop 13 text) n) after e (omega arith) f

-- the first field apart
fields-cons : (l s : List ℕ) (n : ℕ) → length l ≡ 28 → field_frames (l ++ s) (suc n) ≡ field_frame (l ++ s) ++ field_frames s n
unfolding field_frames
fields-cons l s zero h = sym (append-nil (field_frame (l ++ s)))
fields-cons l s (suc n) h =
    let k : 28 * suc n ≡ length l + 28 * n = omega arith in
    ap₂ (λ (a b : List ℕ). a ++ field_frame b) (fields-cons l s n h) (ap (λ (i : ℕ). drop i (l ++ s)) k ∙ drop-append-add l s (28 * n))
    ∙ append_assoc (field_frame (l ++ s)) (field_frames s n) (field_frame (drop (28 * n) s))

-- a field's frame is its entry's
field-frame : (e : Entry) (t : List ℕ) → good_row e.row ≡ true → field_frame (table_field e ++ t) ≡ entry_frame e
unfolding field_frame entry_frame
field-frame e t g =
    let h = row-length e.row g in
    rw (table-field e h) (ap (λ (r : List ℕ). on_wire (frame_of W1 (set_table e.number r))) (take_at e.row t 24 h))

fields-are : (tables above : ℕ) (es : List Entry) → rising tables above es ≡ true → field_frames (table_fields es) (length es) ≡ frames_of es
unfolding table_fields frames_of
fields-are tables above [] g = unfold field_frames in refl
fields-are tables above (e ∷ es) g =
    fields-cons (table_field e) (table_fields es) (length es) (length-first tables above e es g)
    ∙ ap₂ ◌++◌ (field-frame e (table_fields es) (rising-row tables above e es g)) (fields-are tables e.number es (rising-rest tables above e es g))

module _ (tables : ℕ) (text : List ℕ) (p : IsCard tables text) where
  account-there : take 10 (drop 3 text) ≡ p.account
  unfolding card_text
  account-there =
      let h = account-length p.account p.good-account in
      ap (λ (l : List ℕ). take 10 (drop 3 l)) (sym p.spelt)
      ∙ (rw (account-field p.account h) (take_at p.account (table_fields p.entries) 10 h))

  pub card-frames-are : text_frames text (length p.entries) ≡ card_frames p.account p.entries
  unfolding text_frames card_frames
  card-frames-are =
      ap₂ (λ (a s : List ℕ). account_frame a ++ field_frames s (length p.entries)) account-there
      (ap (drop 13) (sym p.spelt) ∙ drop-account p.account p.entries p.good-account)
      ∙ ap (λ (l : List ℕ). account_frame p.account ++ l) (fields-are tables 0 p.entries p.good)

  pub length-card-frames : length (card_frames p.account p.entries) ≡ frames_length p.entries
  length-card-frames =
      ap length (sym card-frames-are) ∙ length-text-frames text (length p.entries) (omega (arith, length-card tables text p))

  pub rows_of : length text / 28 ≡ length p.entries
  rows_of = omega (arith, length-card tables text p)

-- the two things that a check's answer can say
module _ (tables : ℕ) (text : List ℕ) (number place : ℕ) where
  pub card-of : CheckedAs tables text number place → number ≡ 1 → IsCard tables text
  unfolding CheckedAs
  card-of (inl a) e = a.is-card
  card-of (inr b) e = absurd (omega (arith, b.refused))

  refusal-of : CheckedAs tables text number place → (number ≡ 1 → ⊥) → Refused tables text number place
  unfolding CheckedAs
  refusal-of (inl a) h = absurd (h a.done)
  refusal-of (inr b) h = b

  pub answers-40 : (out : List ℕ) → CheckedAs tables text number place → (number ≡ 1 → ⊥) → ReadAs tables text out 40 0 place out
  unfolding ReadAs
  answers-40 out c h =
      let r = refusal-of c h in
      inr (inr (record { refused = refl; no-card = r.no-card; longest = r.longest; no_length = refl; kept = refl }))

-- no refusal has the number of what is done
pub not-done : (r : Refusal) → refusal_number r ≡ 1 → ⊥
not-done (refusal.NoCard place) e = omega arith
not-done refusal.NoRoom e = omega arith
not-done refusal.NoEdition e = omega arith

-- what the check refuses, the reader does
pub answers-refused : (tables : ℕ) (text out : List ℕ) (r : Refusal) (answer : Result ℕ Refusal) → CheckedAs tables text (refusal_number r) (refusal_place r)
    → IsErrAnd answer (λ e. e ≡ r) → ReadAs tables text out (answer_number answer) (answer_length answer) (answer_place answer) out
answers-refused tables text out r (Ok length) c e = absurd e
answers-refused tables text out (refusal.NoCard place) (Err why) c e = rw e (answers-40 tables text 40 place out c (λ z. omega arith))
answers-refused tables text out refusal.NoRoom (Err why) c e = absurd (omega (arith, (refusal-of tables text 41 0 c (λ z. omega arith)).refused))
answers-refused tables text out refusal.NoEdition (Err why) c e = absurd (omega (arith, (refusal-of tables text 16 0 c (λ z. omega arith)).refused))

module _ (tables : ℕ) (text out : List ℕ) (p : IsCard tables text) where
  -- the rows stand in the text, and are no more than the tables
  pub rows_fit : 13 + 28 * (length text / 28) ≤ length text
  rows_fit = omega (arith, rows_of tables text p, length-card tables text p)

  pub rows_few : length text / 28 ≤ tables
  rows_few = omega (arith, rows_of tables text p, tables-bound tables text p)

  pub answers-41 : length out < 19 + 36 * (length text / 28) → ReadAs tables text out 41 0 0 out
  unfolding ReadAs
  answers-41 h =
      inr (inl (record { refused = refl; is-card = p; short = omega (arith, rows_of tables text p); no_length = refl; no_place = refl; kept = refl }))

  pub answers-1 : (after : List ℕ) → 19 + 36 * (length text / 28) ≤ length out → after ≡ stored out 0 (text_frames text (length text / 28))
      → ReadAs tables text out 1 (19 + 36 * (length text / 28)) 0 after
  unfolding ReadAs
  answers-1 after h w =
      let n = rows_of tables text p in
      let room : length (card_frames p.account p.entries) ≤ length out = omega (arith, length-card-frames tables text p) in
      inl
      (record {
        done = refl;
        is-card = p;
        room = omega arith;
        long = ap (λ (k : ℕ). 19 + 36 * k) n;
        no_place = refl;
        written =
            w
            ∙ ap (λ (k : ℕ). stored out 0 (text_frames text k)) n
            ∙ ap (stored out 0) (card-frames-are tables text p)
            ∙ stored-holding out (card_frames p.account p.entries) room;
      })

-- any two answers that are right are equal, with every byte of the buffer
pub one-read : (tables : ℕ) (text out : List ℕ) (n s p : ℕ) (a : List ℕ) (m t q : ℕ) (b : List ℕ)
    → ReadAs tables text out n s p a → ReadAs tables text out m t q b → (n ≡ m) × (s ≡ t) × (p ≡ q) × (a ≡ b)
unfolding ReadAs
one-read tables text out n s p a m t q b (inl x) (inl y) =
    let e = one-card tables text x.is-card y.is-card in (
      x.done ∙ sym y.done,
      x.long ∙ ap (λ l. 19 + 36 * length l) e.1 ∙ sym y.long,
      x.no_place ∙ sym y.no_place,
      x.written ∙ ap₂ (λ (c : List ℕ) (l : List Entry). holding out (card_frames c l)) e.0 e.1 ∙ sym y.written,
    )
one-read tables text out n s p a m t q b (inl x) (inr (inl y)) =
    absurd (omega (arith, x.room, y.short, ap length (one-card tables text x.is-card y.is-card).1))
one-read tables text out n s p a m t q b (inl x) (inr (inr y)) = absurd (y.no-card x.is-card)
one-read tables text out n s p a m t q b (inr (inl x)) (inl y) =
    absurd (omega (arith, y.room, x.short, ap length (one-card tables text x.is-card y.is-card).1))
one-read tables text out n s p a m t q b (inr (inl x)) (inr (inl y)) =
    (x.refused ∙ sym y.refused, x.no_length ∙ sym y.no_length, x.no_place ∙ sym y.no_place, x.kept ∙ sym y.kept)
one-read tables text out n s p a m t q b (inr (inl x)) (inr (inr y)) = absurd (y.no-card x.is-card)
one-read tables text out n s p a m t q b (inr (inr x)) (inl y) = absurd (x.no-card y.is-card)
one-read tables text out n s p a m t q b (inr (inr x)) (inr (inl y)) = absurd (x.no-card y.is-card)
one-read tables text out n s p a m t q b (inr (inr x)) (inr (inr y)) =
    (x.refused ∙ sym y.refused, x.no_length ∙ sym y.no_length, one-longest (IsCard tables) text p q x.longest y.longest, x.kept ∙ sym y.kept)
