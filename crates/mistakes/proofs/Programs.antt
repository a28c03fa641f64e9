-- What the wrong programs would answer is ruled out, by computing. Assumes nothing.
use mathlib.Core.Path.{◌≡◌, refl, sym, ap, ◌∙◌}
use mathlib.Core.Bool.{true}
use mathlib.Core.List.{List, [], ◌∷◌, ◌++◌}
use mathlib.Core.Logic.{inl, inr}
use Prim.Native.Nat.{ℕ, zero, suc, ◌+◌, ◌≤◌, ◌<◌}
use native.Mathlib.Omega.{arith}
use lib.Count.{ones}
use lib.ListN.{length, get_or, drop, length-append}
use lib.Seq.{drop_at}
use Rattle.line.specs.Quoted.{chars}
use Rattle.line.specs.Characters.{damaged_at, seven, sent, undamaged_all}
use Rattle.damage.specs.First.{first_damaged}
use Rattle.line.specs.Checksum.{bcc_of}
use Rattle.line.specs.Runs.{every}
use Rattle.text.specs.Writing.{stored, holding}
use Rattle.text.specs.Classes.{between, is_digit, is_letter, is_printable, is_address, is_value, matching, same_text}
use Rattle.text.specs.Decimal.{decimal}
use Rattle.text.specs.Layout.{layout_text, agrees, fits}
use Rattle.clock.specs.Dates.{leap, thirty, days_in, real_date, real_time}
use Rattle.clock.specs.Seconds.{real_clock, next_month, next_day, next_second}
use Rattle.values.specs.Edition.{is_edition, tables_of}
use Rattle.values.specs.Family.{is_family, is_eqm, counter_end, export_end}
use Rattle.values.specs.Registers.{good_digits, is_account_character, good_account, good_row}
use Rattle.values.specs.Texts.{serial_text, wired_text, table_text}
use Rattle.frames.specs.Frames.{closed, frame_of, block_of}
use Rattle.frames.specs.Commands.{bracketed}
use Rattle.frames.specs.Session.{wired_line, confirmation, speed_said}
use Rattle.datasets.specs.Sets.{data_set}
use Rattle.state.specs.WellFormed.{limit, first_good, held_good, mark_good, hurt_good, receiver_good, below, zones_below, both_below, sum_of, total, tables_good, no_time, unused, period_good, every_period, archive_good, link_good, facts_good, factory_good, registers_good, speed_good, well_formed}
use Rattle.state.specs.Making.{Made, new_rows, facts_refused, made_of}
use Rattle.state.specs.Link.{is_wired, rest_speed}
use Rattle.receiving.specs.Hearing.{hearing, listening, confirming, framing}
use Rattle.deciding.specs.Shape.{start_good, bare_shape, content, framed_shape}
use Rattle.deciding.specs.Verdict.{entry, bare_verdict, framed_verdict, shape_verdict, verdict}
use Rattle.tariff.specs.Months.{month_starts, month_closed}
use Rattle.meter.specs.declared.Answer.{Answer}
use Rattle.meter.specs.Link.{slow_too, refused_reply, after_refusal}
use Rattle.meter.specs.Acting.{tried, acted}
use Rattle.meter.specs.SignOn.{confirms, wants_block, wants_program, wants_periods}
use Rattle.meter.specs.Character.{symbol, confirmed, heard, taken, character}
use Rattle.meter.specs.Events.{tick}
use Rattle.meter.specs.Life.{refusal}
use Rattle.storing.specs.declared.Reply.{Reply}
use Rattle.commands.specs.Building.{kept_or}
use Rattle.reading.specs.Sets.{SetRead, of_kind, leading, starts_with3, is_set, address_length, value_length, set_here, set_read}
use Rattle.post.specs.Grammar.{line_text, lines_text, last_line, post_text}
use Rattle.post.specs.Place.{CheckedAs}
use Rattle.post.specs.Columns.{lowest, highest, column_fits, columns_fit, number_of, may_follow, pick, next_number, LinePlace, FirstStray}
use Rattle.post.specs.Rest.{Passed, Scanned}
use Rattle.post.proofs.Lines.{length-line}
use Rattle.post.proofs.LinePlaces.{place-tens, place-stray}
use Rattle.post.proofs.Places.{Stands, passed_none, passed-more, longest-line}
use Rattle.post.proofs.Answers.{one_answer, refused}
use Rattle.numerals.specs.Numerals.{width_within, width_of, digits_of, number_line}
use Rattle.blocks.specs.Stripping.{stripped_of}
use Rattle.blocks.specs.Parts.{is_character, not_etx, is_block, bcc_fits, part_of, between as within}
use Rattle.reading.specs.Whole.{set_of, also, read_from, read_all, place_after}
use Rattle.finding.specs.Finding.{among, position, answered, lookup, pointed_at}
use Rattle.showing.specs.Shown.{set_line, set_lines, found_shown, sets_shown, refusal_shown, lookup_shown, first_shown, block_shown, reply_shown, readout_shown, register_shown}
use Rattle.history.proofs.Examples.{examples}
use Rattle.facts.proofs.Facts.{facts}
use Rattle.mistakes.specs.Samples.{serial, account, password, twos, new_meter, held_in}
use Rattle.mistakes.specs.Replying.{two_sets}
use Rattle.mistakes.specs.Events.{slow_confirmed}
use Rattle.mistakes.specs.Programs.{begun, trailed, fast, wrong_password, wrong_tried, bracket_within, bad_second, State, Meters, Head, Readouts, Histories, Post}
use Rattle.mistakes.proofs.Differing.{seen, number, flag, byte}
use Rattle.mistakes.proofs.Posts.{strays}

pub state : State
unfolding every stored between is_digit is_letter decimal leap thirty days_in real_date real_time real_clock is_edition tables_of good_digits is_account_character good_account limit first_good held_good mark_good hurt_good receiver_good below zones_below both_below is_family is_eqm counter_end export_end sum_of total tables_good no_time unused period_good every_period archive_good link_good facts_good factory_good registers_good speed_good well_formed new_rows facts_refused made_of is_wired rest_speed serial account password new_meter held_in begun trailed
state =
    record {
      first-row-only = number refl;
      starts-with-an-attempt = seen (λ (r : Made). r.meter.attempts) refl;
      takes-9600-outside-a-session = flag refl;
      takes-a-mark-of-two = flag refl;
      takes-a-third-link = (number refl, flag refl);
      overlooks-an-unused-place = flag refl;
      total-of-three = flag refl;
    }

pub meters : Meters
unfolding ones damaged_at seven sent bcc_of every stored between is_digit is_letter is_printable matching same_text decimal layout_text agrees fits leap thirty days_in real_date real_time real_clock next_month next_day next_second is_edition tables_of good_digits is_account_character good_account closed frame_of bracketed limit first_good held_good mark_good hurt_good receiver_good below zones_below both_below is_family is_eqm counter_end export_end sum_of total tables_good no_time unused period_good every_period archive_good link_good facts_good factory_good registers_good speed_good well_formed new_rows is_wired rest_speed hearing listening confirming framing start_good bare_shape content framed_shape entry bare_verdict framed_verdict shape_verdict verdict month_starts month_closed refused_reply after_refusal tried acted symbol heard taken character tick refusal confirms wants_block wants_program wants_periods confirmation speed_said slow_too confirmed serial account password new_meter held_in fast wrong_password wrong_tried slow_confirmed
meters =
    record {
      calls-a-small-buffer-malformed = number refl;
      forgives-a-wrong-password = seen (λ (a : Answer). a.next.attempts) refl;
      answers-the-slow-at-9600 = seen (λ (a : Answer). a.speed) refl;
      gives-the-wrong-speed = seen (λ (a : Answer). a.speed) refl;
      says-a-byte-was-sent = seen (λ (r : Reply). r.length) refl;
    }

pub head : Head
unfolding ones seven sent every holding between is_digit is_letter is_printable is_address is_value decimal layout_text good_digits serial_text wired_text wired_line data_set kept_or of_kind leading starts_with3 is_set address_length value_length set_here set_read serial two_sets
head =
    record {
      calls-by-the-answer = λ r b. byte 1 refl b.held;
      hands-out-the-next-place-as-length = seen (λ (s : SetRead). s.value_length) refl;
    }

pub readouts : Readouts
unfolding ones damaged_at seven sent undamaged_all first_damaged bcc_of every between is_digit is_letter is_printable is_address is_value matching same_text decimal closed block_of stripped_of is_character not_etx within is_block bcc_fits part_of data_set of_kind leading starts_with3 is_set address_length value_length set_here set_read set_of also read_from read_all place_after among position answered lookup pointed_at width_within width_of digits_of number_line set_line set_lines found_shown sets_shown refusal_shown lookup_shown first_shown block_shown reply_shown readout_shown register_shown two_sets bad_second
readouts = record { shows-place-0 = byte 7 refl; loses-the-bad-set = byte 3 refl; shows-every-set = byte 0 refl }

-- as many writes told as the examples say, and no more
pub histories : Histories
histories =
    record {
      applies-a-write-twice = λ e. omega (arith, ap length (e ∙ examples.programmed));
      takes-a-frame-in-read-only-mode = λ e. omega (arith, ap length (e ∙ examples.only-read));
      tells-edition-1-of-table-25 = λ e. omega (arith, ap length (e ∙ examples.no-saturday));
      keeps-a-frame-over-silence = λ e. omega (arith, ap length (e ∙ examples.cut-by-silence));
      hears-a-question-for-what-went-out = λ e. omega (arith, ap length (e ∙ examples.no-out));
    }

row-good : good_row twos ≡ true
unfolding every between good_row twos
row-good = refl

no_line : next_number 24 0 bracket_within ≡ 0
unfolding between decimal layout_text table_text line_text lines_text last_line post_text lowest highest column_fits columns_fit number_of may_follow pick next_number bracket_within
no_line = refl

accepts-it : CheckedAs 24 bracket_within 1 0 → ⊥
unfolding CheckedAs
accepts-it (inl a) = strays 24 bracket_within (omega arith) no_line a.is-post
accepts-it (inr b) = omega (arith, b.refused)

-- the beginning of a line up to its tens digit, behind a first line
columns : (d : ℕ) → column_fits (chars "131.0." ++ d ∷ []) 6 ≡ true → (j : ℕ) → j < 7 → column_fits (chars "131.0." ++ d ∷ []) j ≡ true
unfolding between lowest highest column_fits
columns d e zero h = refl
columns d e (suc zero) h = refl
columns d e (suc (suc zero)) h = refl
columns d e (suc (suc (suc zero))) h = refl
columns d e (suc (suc (suc (suc zero)))) h = refl
columns d e (suc (suc (suc (suc (suc zero))))) h = refl
columns d e (suc (suc (suc (suc (suc (suc zero)))))) h = e
columns d e (suc (suc (suc (suc (suc (suc (suc j))))))) h = absurd (omega arith)

module _ (tables n d : ℕ) (few : tables < 100) (low : 0 < n) (high : n ≤ tables) (tens : column_fits (chars "131.0." ++ d ∷ []) 6 ≡ true) where
  abbrev cut : List ℕ
  cut = chars "131.0." ++ d ∷ []

  abbrev text : List ℕ
  text = line_text n twos ++ cut

  behind : drop 36 text ≡ cut
  behind = drop_at (line_text n twos) cut 36 (length-line n twos row-good)

  begins : FirstStray cut 7
  begins = record { in-text = omega arith; in-line = omega arith; before = columns d tens; stops = λ h i. absurd (omega arith) }

  passed : Passed tables text 36 n
  passed =
      passed-more tables 0 0 n text few (omega (arith, length-append (line_text n twos) cut, length-line n twos row-good)) (passed_none tables text)
      (record { row = twos; low = low; high = high; good-row = row-good; front = ap (λ (l : List ℕ). line_text n twos ++ l) (sym behind) })

  no_last : cut ≡ last_line → ⊥
  unfolding last_line
  no_last e = omega (arith, ap (λ (l : List ℕ). get_or l 0 0) e)

  cut-answer : (place : ℕ) → place < 36 → LinePlace tables n cut place → CheckedAs tables text 20 (36 + place)
  cut-answer place h p =
      refused tables 36 n 7 text few (record { passed = passed; stops = λ i. absurd (omega (arith, ap length behind)); strays = rw behind begins }) place
      (λ i e. no_last (sym behind ∙ e)) (rw behind (longest-line tables n cut few place p h (λ i j e. omega (arith, e)) (omega arith) high))

fits0 : column_fits (chars "131.0.0") 6 ≡ true
unfolding between lowest highest column_fits
fits0 = refl

fits2 : column_fits (chars "131.0.2") 6 ≡ true
unfolding between lowest highest column_fits
fits2 = refl

spent : CheckedAs 24 (line_text 9 twos ++ chars "131.0.0") 20 43 → ⊥
spent c =
    let begun0 = begins 24 9 48 (omega arith) (omega arith) (omega arith) fits0 in
    let right =
    cut-answer 24 9 48 (omega arith) (omega arith) (omega arith) fits0 6 (omega arith)
    (place-tens 24 9 (chars "131.0.0") 7 begun0 (omega arith) (omega arith) (λ t. omega (arith, t.0))) in
    omega (arith, (one_answer 24 (line_text 9 twos ++ chars "131.0.0") 20 43 20 42 c right).1)

not-spent : CheckedAs 25 (line_text 24 twos ++ chars "131.0.2") 20 42 → ⊥
not-spent c =
    let begun2 = begins 25 24 50 (omega arith) (omega arith) (omega arith) fits2 in
    let right =
    cut-answer 25 24 50 (omega arith) (omega arith) (omega arith) fits2 7 (omega arith)
    (place-stray 25 24 (chars "131.0.2") 7 begun2 (omega arith) (λ h. (omega arith, omega arith)) (λ h. absurd (omega arith))) in
    omega (arith, (one_answer 25 (line_text 24 twos ++ chars "131.0.2") 20 42 20 43 c right).1)

pub post : Post
post =
    record {
      makes-up-the-place = λ c. omega (arith, ((facts.past-24 twos row-good).only 20 72 c).1);
      lets-a-spent-tens-digit-pass = spent;
      spends-the-tens-digit-at-24 = not-spent;
      keeps-what-follows-a-bracket = accepts-it;
    }
