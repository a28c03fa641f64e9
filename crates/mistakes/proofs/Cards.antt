-- The wrong answers for `card` and `cardwriting` are ruled out: each text is a card or strays from every card, by computing. Assumes nothing.
use mathlib.Core.Path.{◌≡◌, refl, sym, ap, ◌∙◌}
use mathlib.Core.Bool.{true, false}
use mathlib.Core.List.{List, [], ◌∷◌, ◌++◌}
use mathlib.Core.Logic.{inl, inr}
use Prim.Native.Nat.{ℕ, zero, suc, ◌+◌, ◌*◌, ◌<◌, ◌≤◌}
use native.Mathlib.Omega.{arith}
use lib.ListN.{length, get_or, drop, replicate, length-append}
use lib.Seq.{drop_at}
use Rattle.line.specs.Runs.{every}
use Rattle.text.specs.Classes.{between, is_letter, is_digit}
use Rattle.text.specs.Decimal.{decimal}
use Rattle.text.specs.Writing.{holding}
use Rattle.values.specs.Edition.{is_edition, tables_of}
use Rattle.values.specs.Registers.{is_account_character, good_account, good_row, good_table}
use Rattle.state.specs.WellFormed.{edition_of, well_formed}
use Rattle.state.specs.Setting.{with_attempts}
use Rattle.state.specs.Making.{new_rows}
use Rattle.replies.specs.Shown.{row_of}
use Rattle.post.specs.Grammar.{Entry, good_entry, rising}
use Rattle.card.specs.Grammar.{field_text, account_field, table_field, table_fields, card_text, IsCard}
use Rattle.card.specs.Place.{CheckedAs}
use Rattle.card.specs.Columns.{account_column, table_column, FirstStray, table_stands}
use Rattle.card.specs.Fields.{Fields, Passed, Scanned}
use Rattle.card.specs.Frames.{ReadAs}
use Rattle.card.proofs.Fields.{one-card, stands}
use Rattle.card.proofs.Places.{passed-account, passed-more, no-account, no-field-here}
use Rattle.card.proofs.Answers.{one_answer, answers-account, answers-field}
use Rattle.cardwriting.specs.Writing.{Written, entries_from, card_of, written_in, written_to}
use Rattle.cardwriting.proofs.Writing.{answers-14, answers-41}
use Rattle.mistakes.specs.Samples.{account, twos, new_meter}
use Rattle.mistakes.specs.Posts.{entry, one, ready}
use Rattle.mistakes.proofs.Sending.{ready-formed}
use Rattle.mistakes.specs.Cards.{sample, swapped, second_account, equal_numbers, from_zero, low_byte_first, Cards, CardRefusals, WriterRefusals, CardsWritten}

-- what the texts come to
record Computed : Type 0 where
  good-account : good_account account ≡ true
  rises : rising 24 0 one ≡ true
  rises-of-7 : rising 7 0 one ≡ true
  swapped-long : length swapped ≡ 13
  swapped-tag : account_column 0 (get_or swapped 0 0) ≡ true
  swapped-strays : account_column 1 (get_or swapped 1 0) ≡ false
  second-stands : table_stands 24 0 (account_field account) ≡ false
  second-long : length (account_field account) ≡ 13
  high-stands : table_stands 6 0 (table_fields one) ≡ false
  one-long : length (table_fields one) ≡ 28
  first-stands : table_stands 24 0 (drop 13 equal_numbers) ≡ true
  first-number : get_or (drop 13 equal_numbers) 3 0 ≡ 7
  again-stands : table_stands 24 7 (drop 41 equal_numbers) ≡ false
  again-long : length (drop 41 equal_numbers) ≡ 28
  sample-room : 19 + 36 * length one ≡ 55
  second-tag : table_column 24 0 0 (get_or (account_field account) 0 0) ≡ false

computed : Computed
unfolding every between is_letter is_digit is_account_character good_account good_row good_table good_entry rising field_text account_field table_field table_fields card_text account_column table_column table_stands account twos swapped equal_numbers
computed =
    record {
      good-account = refl;
      rises = refl;
      rises-of-7 = refl;
      swapped-long = refl;
      swapped-tag = refl;
      swapped-strays = refl;
      second-stands = refl;
      second-long = refl;
      high-stands = refl;
      one-long = refl;
      first-stands = refl;
      first-number = refl;
      again-stands = refl;
      again-long = refl;
      sample-room = refl;
      second-tag = refl;
    }

swapped-first : FirstStray account_column 13 swapped 1
swapped-first =
    record {
      in-text = omega (arith, computed.swapped-long);
      in_field = omega arith;
      before = λ j h. let z : j ≡ 0 = omega arith in ap (λ (i : ℕ). account_column i (get_or swapped i 0)) z ∙ computed.swapped-tag;
      stops = λ h k. computed.swapped-strays;
    }

no-swapped : IsCard 24 swapped → ⊥
no-swapped = no-account 24 swapped 1 swapped-first (omega arith)

-- behind a good account no field stands
no-behind : (tables : ℕ) (t : List ℕ) → 0 < length t → table_stands tables 0 t ≡ false → IsCard tables (account_field account ++ t) → ⊥
no-behind tables t some st c =
    let d = drop_at (account_field account) t 13 computed.second-long in
    no-field-here tables 0 t some st (rw d at ((passed-account tables account computed.good-account t).back c))

no_second : IsCard 24 second_account → ⊥
unfolding second_account
no_second = no-behind 24 (account_field account) (omega (arith, computed.second-long)) computed.second-stands

no-high : IsCard 6 sample → ⊥
unfolding sample card_text
no-high = no-behind 6 (table_fields one) (omega (arith, computed.one-long)) computed.high-stands

-- where the second account stands every card has gone on otherwise
second-place : CheckedAs 24 second_account 40 13
unfolding second_account
second-place =
    let second = account_field account in
    let behind : drop 13 second_account ≡ second = drop_at second second 13 computed.second-long in
    let scanned : Scanned 24 second_account 13 0 =
    record { passed = passed-account 24 account computed.good-account second; stops = λ h. ap (table_stands 24 0) behind ∙ computed.second-stands } in
    answers-field 24 13 0 second_account scanned 0 (λ e. omega (arith, e, length-append second second, computed.second-long))
    (record {
      in-text = omega arith;
      in_field = omega arith;
      before = λ j h. absurd (omega arith);
      stops = λ h k. ap (λ (s : List ℕ). table_column 24 0 0 (get_or s 0 0)) behind ∙ computed.second-tag;
    })

-- nor does table 7 stand behind itself
first-passed : Passed 24 equal_numbers 13 0
unfolding equal_numbers card_text
first-passed = passed-account 24 account computed.good-account (table_fields (entry 7 twos ∷ entry 7 twos ∷ []))

no-equal : IsCard 24 equal_numbers → ⊥
no-equal c =
    let p : Passed 24 equal_numbers 41 7 =
    rw computed.first-number at (passed-more 24 0 13 equal_numbers first-passed (stands 24 0 (drop 13 equal_numbers) computed.first-stands)) in
    no-field-here 24 7 (drop 41 equal_numbers) (omega (arith, computed.again-long)) computed.again-stands (p.back c)

-- the sample is a card
sample-card : (tables : ℕ) → rising tables 0 one ≡ true → IsCard tables sample
unfolding sample
sample-card tables g = record { account = account; entries = one; good-account = computed.good-account; good = g; spelt = refl }

sample-entries : (p : IsCard 24 sample) → p.entries ≡ one
unfolding sample-card
sample-entries p = (one-card 24 sample p (sample-card 24 computed.rises)).1

accepted : (tables : ℕ) (text : List ℕ) → IsCard tables text → CheckedAs tables text 1 0
unfolding CheckedAs
accepted tables text p = inl (record { done = refl; no_place = refl; is-card = p })

refused-card : (tables : ℕ) (text : List ℕ) (place : ℕ) → IsCard tables text → CheckedAs tables text 40 place → ⊥
refused-card tables text place p c = omega (arith, (one_answer tables text 40 place 1 0 c (accepted tables text p)).0)

accepted-other : (tables : ℕ) (text : List ℕ) (place : ℕ) → (IsCard tables text → ⊥) → CheckedAs tables text 1 place → ⊥
unfolding CheckedAs
accepted-other tables text place h (inl a) = h a.is-card
accepted-other tables text place h (inr b) = omega (arith, b.refused)

-- 41 for a text that is no card, or for room enough; what is no card read, a card refused
room-first : (text out after : List ℕ) (size place : ℕ) → (IsCard 24 text → ⊥) → ReadAs 24 text out 41 size place after → ⊥
unfolding ReadAs
room-first text out after size place h (inl x) = omega (arith, x.done)
room-first text out after size place h (inr (inl x)) = h x.is-card
room-first text out after size place h (inr (inr x)) = omega (arith, x.refused)

room-enough : (out after : List ℕ) (size place : ℕ) → length out ≡ 55 → ReadAs 24 sample out 41 size place after → ⊥
unfolding ReadAs
room-enough out after size place h (inl x) = omega (arith, x.done)
room-enough out after size place h (inr (inl x)) =
    omega (arith, x.short, ap length (sample-entries x.is-card), computed.sample-room)
room-enough out after size place h (inr (inr x)) = omega (arith, x.refused)

no_length : (place : ℕ) (after : List ℕ) → ReadAs 24 sample (replicate 55 0) 1 0 place after → ⊥
unfolding ReadAs
no_length place after (inl x) = omega (arith, x.long, ap length (sample-entries x.is-card), computed.sample-room)
no_length place after (inr (inl x)) = omega (arith, x.refused)
no_length place after (inr (inr x)) = omega (arith, x.refused)

read-other : (tables : ℕ) (text out after : List ℕ) (size place : ℕ) → (IsCard tables text → ⊥) → ReadAs tables text out 1 size place after → ⊥
unfolding ReadAs
read-other tables text out after size place h (inl x) = h x.is-card
read-other tables text out after size place h (inr (inl x)) = omega (arith, x.refused)
read-other tables text out after size place h (inr (inr x)) = omega (arith, x.refused)

card-refused : (tables : ℕ) (text out after : List ℕ) (size place : ℕ) → IsCard tables text → ReadAs tables text out 40 size place after → ⊥
unfolding ReadAs
card-refused tables text out after size place p (inl x) = omega (arith, x.done)
card-refused tables text out after size place p (inr (inl x)) = omega (arith, x.refused)
card-refused tables text out after size place p (inr (inr x)) = x.no-card p

pub card-refusals : CardRefusals
card-refusals = record { number = (λ e. omega (arith, e), λ e. omega (arith, e)); place = (λ e. omega (arith, e), λ e. omega (arith, e)) }

pub writer-refusals : WriterRefusals
writer-refusals = record { number = (λ e. omega (arith, e), λ e. omega (arith, e)) }

pub cards : Cards
cards =
    record {
      check = (accepted-other 24 swapped 0 no-swapped, accepted-other 24 second_account 0 no_second);
      check-numbers = (accepted-other 24 equal_numbers 0 no-equal, λ place. refused-card 24 sample place (sample-card 24 computed.rises));
      makes-up-the-place = λ c. omega (arith, (one_answer 24 swapped 40 0 40 1 c (answers-account 24 swapped 1 swapped-first (omega arith))).1);
      takes-a-second-account = λ c. omega (arith, (one_answer 24 second_account 40 15 40 13 c second-place).1);
      check_of = (accepted-other 6 sample 0 no-high, λ place. refused-card 7 sample place (sample-card 7 computed.rises-of-7));
      read = (λ place. room-first swapped [] [] 0 place no-swapped, λ size place after. room-enough (replicate 55 0) after size place refl);
      hands-out-the-place-as-length = no_length;
      read_of =
          (λ size place after. read-other 6 sample (replicate 55 0) after size place no-high, λ size place after. card-refused 7 sample (replicate 55 0) after size place (sample-card 7 computed.rises-of-7));
    }

first-edition : is_edition (edition_of ready) ≡ true
unfolding is_edition between new_meter
first-edition = refl

many-attempts : well_formed (with_attempts ready 4) ≡ false
unfolding well_formed
many-attempts = refl

-- the card of that state is written, and its second and its seventeenth byte are 0 and 1
record Put : Type 0 where
  length_high : get_or (holding (replicate 685 0) (card_of 24 ready.registers)) 1 0 ≡ 0
  first-number : get_or (holding (replicate 685 0) (card_of 24 ready.registers)) 16 0 ≡ 1
  wrong-high : get_or low_byte_first 1 0 ≡ 10
  wrong-number : get_or (card_text account (from_zero 0 24 ready.registers.tables)) 16 0 ≡ 0

put : Put
unfolding holding decimal new_rows new_meter account twos row_of field_text account_field table_field table_fields card_text entries_from card_of from_zero low_byte_first
put = record { length_high = refl; first-number = refl; wrong-high = refl; wrong-number = refl }

written-to : written_to ready (replicate 685 0) ≡ holding (replicate 685 0) (card_of 24 ready.registers)
unfolding written_to new_meter tables_of
written-to = rw (first-edition, ready-formed)

pub cards-written : CardsWritten
cards-written =
    record {
      write = (
        λ e. omega (arith, ap (λ (w : Written). w.number) (e ∙ sym (answers-41 ready [] first-edition ready-formed _ _ refl refl (omega arith)).0)),
        λ e. omega (arith, ap (λ (w : Written). w.number) (e ∙ sym (answers-14 (with_attempts ready 4) [] first-edition many-attempts).0)),
      );
      numbers-from-zero = λ e. omega (arith, put.first-number, put.wrong-number, ap (λ (s : List ℕ). get_or s 16 0) (e ∙ written-to));
      writes-the-low-byte-first = λ e. omega (arith, put.length_high, put.wrong-high, ap (λ (s : List ℕ). get_or s 1 0) (e ∙ written-to));
    }
