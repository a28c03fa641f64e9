-- The facts that document 01 marks [P] hold: by computing them, and the places by the one answer of the check. Assumes nothing.
use mathlib.Core.Path.{◌≡◌, refl, ap, ap₂, ◌∙◌}
use mathlib.Core.Bool.{Bool, true, false, cond, ◌&&◌}
use mathlib.Core.List.{List, [], ◌∷◌, ◌++◌, map}
use Prim.Native.Nat.{ℕ, ◌+◌, ◌-◌, ◌*◌, ◌≤◌}
use native.Mathlib.Omega.{arith}
use borrow.Author.Tests.{not-true, not-false}
use lib.Count.{ones}
use lib.Dec.{eqb}
use lib.ListN.{length, get_or, set, replicate}
use Rattle.line.specs.Quoted.{chars}
use Rattle.line.specs.Controls.{STX, ETX}
use Rattle.line.specs.Characters.{seven, sent}
use Rattle.line.specs.Checksum.{bcc_of}
use Rattle.line.specs.Runs.{every}
use Rattle.text.specs.Classes.{is_digit, between, matching, same_text}
use Rattle.text.specs.Decimal.{decimal, value_from, value_of, number_at}
use Rattle.text.specs.Layout.{layout_text, pattern, agrees, fits}
use Rattle.clock.specs.Dates.{leap, thirty, days_in, real_date, real_time}
use Rattle.clock.specs.Seconds.{real_clock, date_of}
use Rattle.clock.specs.Weekday.{days_before, day_number, weekday}
use Rattle.values.proofs.Editions.{tables-most}
use Rattle.values.specs.Family.{is_eqm, counter_digits, counter_decimals, counter_end, import_name}
use Rattle.values.specs.Registers.{energy_no, zone_energy}
use Rattle.values.specs.Texts.{table_text, counter_text, energy_text}
use Rattle.values.specs.Reading.{clock_read}
use Rattle.frames.specs.Frames.{closed, frame_of, bare_frame, block_of, on_wire}
use Rattle.frames.specs.Commands.{B0, P0, P1, W1, bracketed, ask_clock, ask_serial, ask_account, set_table}
use Rattle.frames.specs.Session.{enter_data}
use Rattle.state.specs.declared.Counters.{Counters}
use Rattle.state.specs.declared.Registers.{Registers}
use Rattle.state.specs.WellFormed.{tables_in, family_in, registers_good}
use Rattle.state.specs.Setting.{counter_of}
use Rattle.datasets.specs.Sets.{data_set, lines_of, energy_name, energy_set}
use Rattle.replies.specs.declared.Ask.TheVariants.{Energy, Export}
use Rattle.replies.specs.Shown.{energy}
use Rattle.replies.specs.Answers.{asked_sets, asked_data}
use Rattle.replies.specs.Block.{directions_long}
use Rattle.replies.specs.Periods.{period_long, long_data}
use Rattle.replies.proofs.Good.{register-ground}
use Rattle.replies.proofs.Sizes.{block-long}
use Rattle.replies.proofs.Periods.{long-block-long}
use Rattle.deciding.specs.Verdicts.{Refuse, Read, WriteClock}
use Rattle.deciding.specs.Asking.{table_asked, energy_named, energy_at, energy_asked, asked}
use Rattle.deciding.specs.Telling.{enclosed, inner, clock_told, told}
use Rattle.tariff.specs.Zones.{own_day, table_for, grown, counted}
use Rattle.post.specs.Grammar.{line_text}
use Rattle.facts.specs.Facts.{Facts, all_ones}
use Rattle.facts.proofs.Places.{only-answer, empty-answer, last-answer, past-answer}

energy-shown : (g : Registers) → family_in g ≡ 0 → counter_of g.counters 1 ≡ 1500
    → block_of (asked_data g (Energy (zone_energy 1)))
    ≡ STX ∷ chars "15.8.1(000001.500*kWh)\r\n" ++ ETX ∷ 0x6C ∷ []
unfolding asked_data asked_sets energy energy_no lines_of data_set energy_name import_name energy_text counter_digits counter_decimals counter_text layout_text decimal block_of closed bcc_of seven
energy-shown g e h = ap₂ (λ (family wh : ℕ). block_of (lines_of (energy_set family false 1 wh ∷ []))) e h

out-shown : (g : Registers) → family_in g ≡ 3 → counter_of g.exported 1 ≡ 1500
    → block_of (asked_data g (Export (zone_energy 1)))
    ≡ STX ∷ chars "2.8.1(00001.500*kWh)\r\n" ++ ETX ∷ 0x6A ∷ []
unfolding asked_data asked_sets energy energy_no lines_of data_set energy_name energy_text counter_digits counter_decimals counter_text layout_text decimal block_of closed bcc_of seven
out-shown g e h = ap₂ (λ (family n : ℕ). block_of (lines_of (energy_set family true 1 n ∷ []))) e h

first-wraps : (end last : ℕ) (zones : List ℕ) → grown end last 1 ≡ 0 → get_or zones 0 0 ≡ last → get_or (set zones 0 (grown end (get_or zones 0 0) 1)) 0 0 ≡ 0
first-wraps end last [] e h = refl
first-wraps end last (n ∷ zones) e h = ap (λ (k : ℕ). grown end k 1) h ∙ e

counter-wraps : (end last : ℕ) (c : Counters) → grown end last 1 ≡ 0 → counter_of c 1 ≡ last → counter_of (counted end c 1 1) 1 ≡ 0
unfolding counted
counter-wraps end last c e h = first-wraps end last c.zones e h

eqm-end : (family : ℕ) → is_eqm family ≡ true → counter_end family ≡ 100000000
unfolding is_eqm counter_end
eqm-end family h = rw (not-true (eqb family 0) h)

-- so many characters, whatever the periods hold
long-is : (g : Registers) → registers_good g ≡ true
    → length (block_of (long_data (tables_in g) g)) ≡ 79 + directions_long (family_in g) + tables_in g * 36 + g.archive.count * period_long (family_in g)
long-is g h = long-block-long (tables_in g) g (register-ground g h).lengths

most : (old : Bool) (n tables kept : ℕ) → n ≡ 79 + cond old 120 220 + tables * 36 + kept * cond old 134 226 → tables ≤ 25 → kept ≤ 12 → n ≤ 3911
most true n tables kept e t k = omega (arith, e)
most false n tables kept e t k = omega (arith, e)

longest : (g : Registers) → registers_good g ≡ true → length (block_of (long_data (tables_in g) g)) ≤ 3911
unfolding directions_long period_long
longest g h = most (eqb (family_in g) 0) _ (tables_in g) g.archive.count (long-is g h) (tables-most g.facts.edition) (register-ground g h).lengths.kept

twelve : (old : Bool) (n tables kept : ℕ) → n ≡ 79 + cond old 120 220 + tables * 36 + kept * cond old 134 226 → kept ≡ 12 → n ≡ cond old 1807 3011 + tables * 36
twelve true n tables kept e k = omega (arith, e, k)
twelve false n tables kept e k = omega (arith, e, k)

twelve-of : (g : Registers) (old : Bool) → registers_good g ≡ true → g.archive.count ≡ 12 → eqb (family_in g) 0 ≡ old → length (block_of (long_data (tables_in g) g)) ≡ cond old 1807 3011 + tables_in g * 36
unfolding directions_long period_long
twelve-of g old h k e = twelve (eqb (family_in g) 0) _ (tables_in g) g.archive.count (long-is g h) k ∙ ap (λ (b : Bool). cond b 1807 3011 + tables_in g * 36) e

pub facts : Facts
unfolding ones bare_frame frame_of closed bcc_of seven sent bracketed enter_data set_table table_text layout_text decimal energy_text counter_digits counter_decimals counter_text asked energy_asked energy_named energy_at table_asked is_eqm ask_clock ask_serial ask_account same_text matching weekday day_number days_before table_for own_day leap told enclosed inner clock_told clock_read pattern fits agrees is_digit between number_at value_of value_from real_clock real_date real_time days_in thirty
facts =
    record {
      leave = refl;
      ask-password = refl;
      enter = refl;
      enter-wire = refl;
      ones-01 = refl;
      ones-04 = refl;
      ones-06 = refl;
      asks-first = λ family. refl;
      energy-block = energy-shown;
      saturday = refl;
      saturday-table = refl;
      saturday-kilns = refl;
      sunday-kilns = refl;
      wraps = λ c h. counter-wraps (counter_end 0) 999999999 c (unfold counter_end in refl) h;
      leap-day = refl;
      no-leap-day = refl;
      empty-text = only-answer [] 20 0 empty-answer;
      only-last = only-answer (chars "!") 20 0 last-answer;
      past-24 = λ row good. only-answer (line_text 24 row ++ chars "1") 20 36 (past-answer row good);
      two-decimals = refl;
      three-decimals = refl;
      four-decimals = refl;
      asks-out = refl;
      out-block = out-shown;
      asks-out-01 = refl;
      eqm-wraps = λ family e c h. counter-wraps (counter_end family) 99999999 c (rw (eqm-end family e)) h;
      block-length = λ g h. block-long (tables_in g) g (register-ground g h).lengths;
      long-block = long-is;
      longest-block = longest;
      twelve-periods = λ g h k e. twelve-of g true h k (unfold is_eqm in (not-false (eqb (family_in g) 0) e));
      twelve-periods-eqm = λ g h k e. twelve-of g false h k (unfold is_eqm in (not-true (eqb (family_in g) 0) e));
    }
