-- The wrong answers for `blocks`, `reading`, `reader`, `finding` and `headlink` are ruled out, by computing. Assumes nothing.
use mathlib.Core.Path.{refl, ap, ◌∙◌}
use lib.Count.{ones}
use Rattle.line.specs.Characters.{damaged_at, seven, undamaged_all}
use Rattle.line.specs.Checksum.{bcc_of}
use Rattle.line.specs.Runs.{every}
use Rattle.text.specs.Writing.{holding}
use Rattle.text.specs.Classes.{between, is_digit, is_letter, is_printable, is_address, is_value, matching, same_text}
use Rattle.text.specs.Decimal.{decimal, value_from, value_of, number_at}
use Rattle.text.specs.Layout.{layout_text, pattern, agrees, fits}
use Rattle.clock.specs.declared.Date.{Date}
use Rattle.clock.specs.declared.Time.{Time}
use Rattle.clock.specs.Dates.{leap, thirty, days_in, real_date, real_time}
use Rattle.values.specs.Family.{is_family, is_eqm, counter_digits, counter_decimals}
use Rattle.values.specs.Registers.{is_account_character, good_account, good_row}
use Rattle.values.specs.Texts.{serial_text, date_text, time_text, counter_text, energy_text}
use Rattle.values.specs.Reading.{date_read, time_read, counter_read, energy_read}
use Rattle.values.specs.Serials.{serial_read, account_read, row_read}
use Rattle.frames.specs.Frames.{closed, block_of}
use Rattle.datasets.specs.Sets.{data_set}
use Rattle.blocks.specs.Stripping.{Stripped}
use Rattle.blocks.specs.Parts.{PartAt}
use Rattle.damage.specs.First.{first_damaged}
use Rattle.blocks.specs.Stripping.{stripped_of, stripped_into}
use Rattle.blocks.specs.Parts.{is_character, not_etx, is_block, bcc_fits, part_of, between as within}
use Rattle.reading.specs.Sets.{SetRead, of_kind, leading, starts_with3, is_set, address_length, value_length, set_here, set_read}
use Rattle.reader.specs.declared.Reader.{Reader}
use Rattle.reader.specs.Walking.{Placed}
use Rattle.reading.specs.Whole.{set_of, also, read_from, read_all, place_after}
use Rattle.finding.specs.Finding.{Lookup, among, position, answered, lookup}
use Rattle.headlink.specs.Telling.{value_number, eqm_told}
use Rattle.headlink.specs.declared.fields.Counted.{Counted}
use Rattle.mistakes.specs.Samples.{serial, twos}
use Rattle.mistakes.specs.Replying.{block, mis_summed, two_sets, same_twice, bad_first, Damage, Blocks, Refusals, Sets, Readers, Walks, Finds, Fields}
use Rattle.mistakes.proofs.Differing.{seen, number, byte, long}

pub damage : Damage
unfolding ones damaged_at first_damaged
damage = record { wrong_first_damaged = (number refl, number refl) }

pub blocks : Blocks
unfolding ones damaged_at seven undamaged_all first_damaged bcc_of every holding closed block_of stripped_of stripped_into is_character not_etx is_block bcc_fits part_of within block mis_summed
blocks =
    record {
      strip = (λ after s. seen (λ (r : Stripped). r.number) refl s.answer, λ r s. byte 0 refl s.held);
      strip-place = (λ after s. seen (λ (r : Stripped). r.place) refl s.answer, λ after s. seen (λ (r : Stripped). r.place) refl s.answer);
      find = (λ w. seen (λ (p : PartAt). p.length) refl w.is, λ w. seen (λ (p : PartAt). p.number) refl w.is);
      part_check = (number refl, number refl);
      calls-a-high-byte-a-wrong-bcc = number refl;
      swaps-start-and-length = seen (λ (p : PartAt). p.length) refl;
      part = (long refl, long refl);
    }

pub refusals : Refusals
refusals = record { number = (number refl, number refl); place = (number refl, number refl) }

pub sets : Sets × Readers × Walks
unfolding every between is_digit is_letter is_printable is_address is_value of_kind leading starts_with3 is_set address_length value_length set_here set_read place_after data_set two_sets
sets = (
  record {
    next_set = (seen (λ (r : SetRead). r.next) refl, seen (λ (r : SetRead). r.next) refl);
    leaves-the-end = seen (λ (r : SetRead). r.next) refl;
    skips-a-bad-set = seen (λ (r : SetRead). r.next) refl;
    takes-no-star = (seen (λ (r : SetRead). r.number) refl, seen (λ (r : SetRead). r.number) refl);
  },
  record {
    next = (λ r d a e. seen (λ (x : SetRead). x.next) refl (e ∙ (λ i. set_read (d i) (a i))), λ r d a e. number refl (ap (λ (x : Reader). x.at) e ∙ (λ i. (set_read (d i) (a i)).next)));
  },
  record {
    wrong_read_at = (seen (λ (r : SetRead). r.next) refl, seen (λ (r : SetRead). r.number) refl);
    wrong_set_after = (seen (λ (p : Placed). p.start) refl, seen (λ (p : Placed). p.start) refl);
  },
)

pub finds : Finds
unfolding every between is_digit is_letter is_printable is_address is_value matching same_text of_kind leading starts_with3 is_set address_length value_length set_here set_read set_of also read_from read_all place_after among position answered lookup data_set two_sets same_twice bad_first
finds =
    record {
      find = (seen (λ (l : Lookup). l.count) refl, seen (λ (l : Lookup). l.count) refl);
      find-compared = (seen (λ (l : Lookup). l.number) refl, seen (λ (l : Lookup). l.number) refl);
      find-stopped = (number refl, number refl);
    }

pub fields : Fields
unfolding every holding between is_digit is_letter matching decimal value_from value_of number_at layout_text pattern agrees fits leap thirty days_in real_date real_time is_account_character good_account good_row serial_text date_text time_text is_family is_eqm counter_digits counter_decimals counter_text energy_text date_read time_read counter_read energy_read serial_read account_read row_read value_number eqm_told serial twos
fields =
    record {
      dirgemist_head_value_serial = (λ after t. number refl t.number, λ after t. number refl t.number);
      dirgemist_head_value_account = (λ after t. number refl t.number, λ r t. byte 0 refl t.held);
      dirgemist_head_value_row = (λ r t. byte 0 refl t.held, λ r t. byte 24 refl t.held);
      dirgemist_head_value_date = (number refl, seen (λ (d : Date). d.day) refl);
      swaps-month-and-day = seen (λ (d : Date). d.day) refl;
      dirgemist_head_value_time = (number refl, seen (λ (t : Time). t.hour) refl);
      dirgemist_head_value_counter = (number refl, number refl);
      dirgemist_head_value_eqm = (seen (λ (c : Counted). c.number) refl, seen (λ (c : Counted). c.number) refl);
    }
