-- The wrong answers for `judging` and `session` are ruled out, by computing. Assumes nothing.
use mathlib.Core.Path.{◌≡◌, refl, sym, ap, ◌∙◌}
use mathlib.Core.Bool.{Bool, true, false, cond}
use mathlib.Core.List.{List, []}
use Prim.Native.Nat.{ℕ}
use native.Mathlib.Omega.{arith}
use lib.Count.{ones}
use lib.Dec.{eqb}
use Rattle.values.proofs.Editions.{is_one}
use Rattle.values.specs.Edition.{is_edition, tables_of}
use Rattle.line.specs.Characters.{damaged_at, seven, sent, undamaged_all}
use Rattle.line.specs.Checksum.{bcc_of}
use Rattle.line.specs.Runs.{every}
use Rattle.text.specs.Classes.{between, is_digit, is_letter, matching, same_text}
use Rattle.text.specs.Decimal.{decimal, value_from, value_of, number_at}
use Rattle.text.specs.Layout.{layout_text, pattern, fits, agrees}
use Rattle.values.specs.Family.{is_family, is_eqm, counter_digits, counter_decimals, import_name}
use Rattle.values.specs.Registers.{good_digits, is_account_character, good_account, good_table, good_zone}
use Rattle.values.specs.Reading.{counter_read, energy_read}
use Rattle.frames.specs.Frames.{closed, frame_of, block_of}
use Rattle.frames.specs.Commands.{bracketed}
use Rattle.frames.specs.Session.{enter_data, confirmation, sign_on, good_speed}
use Rattle.replies.specs.Fixed.{password_ask, identification}
use Rattle.post.specs.Grammar.{post_text}
use Rattle.blocks.specs.Parts.{is_character, not_etx, between as within, is_block, bcc_fits, part_of}
use Rattle.commands.specs.Building.{good_choice}
use Rattle.commands.specs.Spoken.{good_fields, letters_of, data_of, spoken}
use Rattle.commands.specs.Messages.{text_of, good_message}
use Rattle.judging.specs.Lines.{is_line, value_in}
use Rattle.judging.specs.Right.{identifies, asks_password, accepts, refuses, tells_account, tells_counter, tells_energy, tells_export, tells, data_in, answers_in, answers}
use Rattle.session.specs.Messages.{calling, entering, read_of, read_at, work_at, reads_good, message_at}
use Rattle.session.specs.Standing.{told_good, kept_good, work_good, place_good, fact_good, session_told, session_good}
use Rattle.session.specs.Turns.{Step, right_read, right_work, right_at, answered_right, answered, replied, silent}
use Rattle.session.specs.Starting.{Started, told_of, started_of, Opening, Opens, unknown, strange, small, nothing, reads, posts, others, session_of, opened, opened_reads, opened_post, Starts}
use Rattle.mistakes.specs.RuledOut.{RuledOut}
use Rattle.mistakes.specs.Commands.{room}
use Rattle.mistakes.specs.Posts.{one}
use Rattle.mistakes.specs.Sessions.{total_read, waiting, energy_block, Judging, Refusals, Facts, Sessions, Starting}
use Rattle.mistakes.proofs.Differing.{seen, number, flag, long}
use Rattle.mistakes.proofs.Posts.{post-of, good-one}

pub judging : Judging
unfolding ones damaged_at seven sent undamaged_all bcc_of every between is_digit is_letter matching same_text decimal value_from value_of number_at layout_text pattern fits agrees is_account_character good_account counter_digits counter_decimals import_name counter_read energy_read closed frame_of block_of enter_data identification password_ask is_character not_etx within is_block bcc_fits part_of is_line value_in identifies asks_password accepts refuses tells_account tells_counter tells_energy tells_export tells data_in answers_in answers energy_block
judging =
    record {
      is_identification = (flag refl, flag refl);
      is_password_ask = (flag refl, flag refl);
      is_ack = (flag refl, flag refl);
      is_nak = (flag refl, flag refl);
      is_answer = (flag refl, flag refl);
      is-answer-family = (flag refl, flag refl);
      takes-any-energy = flag refl;
      leaves-the-end-open = flag refl;
    }

pub refusals : Refusals
refusals = record { number = (number refl, number refl) }

pub facts : Facts
facts = record { number = (number refl, number refl) }

-- how a session stands, or goes on
by-fact : {right wrong : Step} → eqb wrong.fact right.fact ≡ false → RuledOut right wrong
by-fact = seen (λ (r : Step). r.fact)

pub sessions : Sessions
unfolding ones damaged_at seven sent undamaged_all bcc_of every between is_digit matching same_text decimal value_from value_of number_at layout_text pattern fits agrees counter_digits counter_decimals import_name counter_read energy_read closed frame_of block_of bracketed enter_data confirmation sign_on good_speed is_edition is_family tables_of identification password_ask is_character not_etx within is_block bcc_fits part_of good_choice good_fields text_of good_message is_line value_in identifies asks_password accepts refuses tells_counter tells_energy tells data_in answers_in answers calling entering read_of read_at work_at message_at told_good kept_good work_good place_good fact_good session_told session_good right_read right_work right_at answered_right answered replied silent letters_of data_of spoken energy_block
sessions =
    record {
      hear = (by-fact refl, by-fact refl);
      goes-on-after-nak = by-fact refl;
      hears-the-work = by-fact refl;
      hear-order = (long refl, by-fact refl);
      hear_nothing = (by-fact refl, by-fact refl);
    }

-- document 01's family is one, and one decimal is none
differ : false ≡ true → ⊥
differ e = omega (arith, ap {B = ℕ} (λ (b : Bool). cond b 1 0) e)

known : is_family 0 ≡ true
unfolding is_family between
known = refl

unknown-one : is_family 1 ≡ false
unfolding is_family between
unknown-one = refl

one-decimal : (o : Opening) → Opens (told_of 1 1 0 [] 0 [] 0) total_read 64 o → o.number ≡ 18
one-decimal o (unknown x e) = absurd (is_one 1 true (unfold is_edition between in refl) refl x)
one-decimal o (strange y x e) = ap (λ (y : Opening). y.number) e
one-decimal o (small x h e) = absurd (omega (arith, h))
one-decimal o (nothing x h no_reads no-post e) = absurd (no_reads refl)
one-decimal o (reads x h k e) = absurd (differ (sym unknown-one ∙ x.1))
one-decimal o (posts x h k p) = absurd (omega (arith, k))
one-decimal o (others x h k p) = absurd (omega (arith, k))

-- a start with reads, in room enough
module _ (work : List ℕ) (r : Started) (after : List ℕ) where
  opened-reads : Starts (told_of 1 0 0 [] 0 [] 0) work room r after → r ≡ started_of (opened_reads (told_of 1 0 0 [] 0 [] 0) work)
  opened-reads s = s.answer ∙ ap started_of (reads_of s.opening s.opens)
    where
      reads_of : (o : Opening) → Opens (told_of 1 0 0 [] 0 [] 0) work 64 o → o ≡ opened_reads (told_of 1 0 0 [] 0 [] 0) work
      reads_of o (unknown x e) = absurd (is_one 1 true (unfold is_edition between in refl) refl x)
      reads_of o (strange y x e) = absurd (differ (sym x ∙ known))
      reads_of o (small x h e) = absurd (omega (arith, h))
      reads_of o (nothing x h no_reads no-post e) = absurd (no_reads refl)
      reads_of o (reads x h k e) = e
      reads_of o (posts x h k p) = absurd (omega (arith, k))
      reads_of o (others x h k p) = absurd (omega (arith, k))

-- a post with `()` and no serial
posted : (o : Opening) → Opens (told_of 1 0 1 [] 0 [] 1) (post_text one) 64 o → o.number ≡ 30
unfolding opened_post tables_of
posted o (unknown x e) = absurd (is_one 1 true (unfold is_edition between in refl) refl x)
posted o (strange y x e) = absurd (differ (sym x ∙ known))
posted o (small x h e) = absurd (omega (arith, h))
posted o (nothing x h no_reads no-post e) = absurd (no-post refl)
posted o (reads x h k e) = absurd (omega (arith, k))
posted o (posts x h k p) = ap (λ (y : Opening). y.number) p.opens
posted o (others x h k p) = absurd (p.no-post (post-of 24 one good-one))

by_number : {right wrong : Started} → eqb wrong.number right.number ≡ false → RuledOut right wrong
by_number = seen (λ (r : Started). r.number)

by-sent : {right wrong : Started} → eqb wrong.session.sent right.session.sent ≡ false → RuledOut right wrong
by-sent = seen (λ (r : Started). r.session.sent)

pub starting : Starting
unfolding every between is_digit good_digits tables_of good_table good_zone is_eqm good_fields read_of reads_good told_good session_of opened opened_reads
starting =
    record {
      start = (
        λ place size s after w. by_number refl (opened-reads [] (record { number = 9; place = place; length = size; session = s }) after w),
        λ place size s after w. omega (arith, posted w.opening w.opens, ap (λ (r : Started). r.number) w.answer),
      );
      start-record = (
        λ place size after w. by-sent refl (opened-reads total_read (record { number = 1; place = place; length = size; session = waiting 0 0 }) after w),
        λ place size after w. by-sent refl (opened-reads [] (record { number = 28; place = place; length = size; session = waiting 1 0 }) after w),
      );
      hands-out-the-length-as-place =
          λ s after w. seen (λ (r : Started). r.place) refl (opened-reads total_read (record { number = 1; place = 5; length = 5; session = s }) after w);
      read_good = (flag refl, flag refl);
      read-good-out = (flag refl, flag refl);
      start-family = (
        λ place size s after w. omega (arith, one-decimal w.opening w.opens, ap (λ (r : Started). r.number) w.answer),
        λ place size s after w. omega (arith, one-decimal w.opening w.opens, ap (λ (r : Started). r.number) w.answer),
      );
    }
