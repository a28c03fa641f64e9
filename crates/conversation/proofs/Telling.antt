-- Each read, answered by a meter with good registers: the block tells what was asked, so it is right to the head. Assumes nothing.
use mathlib.Core.Path.{◌≡◌, refl, sym, subst}
use mathlib.Core.Bool.{Bool, true, false, cond, ◌&&◌, ◌||◌}
use mathlib.Core.List.{List, [], ◌∷◌, ◌++◌, append_assoc, append-nil}
use Prim.Native.Nat.{ℕ, ◌<◌}
use native.Mathlib.Omega.{arith}
use borrow.Author.Tests.{eqb-true, leb-true}
use lib.Dec.{eqb, leb}
use lib.ListN.{length}
use lib.Seq.{take_at, drop_at}
use Rattle.line.specs.Quoted.{chars}
use Rattle.line.proofs.Runs.{and_left, and_right, and_both, every-weaker}
use Rattle.text.specs.Classes.{between, matching, same_text}
use Rattle.text.specs.Decimal.{decimal}
use Rattle.text.specs.Layout.{layout_text}
use Rattle.clock.specs.declared.Clock.{Clock}
use Rattle.clock.specs.declared.Date.{Date}
use Rattle.clock.specs.declared.Time.{Time}
use Rattle.clock.specs.Dates.{real_date, real_time}
use Rattle.clock.specs.Seconds.{real_clock}
use Rattle.values.specs.declared.Energy.{Energy}
use Rattle.values.specs.declared.Energy.TheVariants.{Total}
use Rattle.values.specs.Registers.{good_serial, good_account, good_row, good_table, energy_no, zone_energy}
use Rattle.values.specs.Family.{counter_end, export_end}
use Rattle.values.specs.Reading.{date_read, time_read, energy_read}
use Rattle.values.specs.Serials.{serial_read}
use Rattle.values.specs.Texts.{table_text, date_text, time_text}
use Rattle.values.proofs.RoundTrip.{date-reads-back, time-reads-back}
use Rattle.values.proofs.Families.{energy-reads-back}
use Rattle.values.proofs.Serials.{serial-reads-back}
use Rattle.frames.specs.Frames.{block_of, on_wire}
use Rattle.state.specs.declared.Registers.{Registers}
use Rattle.state.specs.declared.Meter.{Meter}
use Rattle.state.specs.Setting.{counter_of}
use Rattle.state.specs.WellFormed.{registers_good, tables_in, family_in}
use Rattle.state.proofs.Parts.{formed-registers, formed-facts, counter-small, total-small}
use Rattle.datasets.specs.Sets.{data_set, lines_of, time_set, date_set, serial_set, account_set, energy_name, energy_set, table_set}
use Rattle.replies.specs.declared.Ask.{Ask}
use Rattle.replies.specs.declared.Ask.TheVariants as ask
use Rattle.replies.specs.Shown.{row_of}
use Rattle.replies.specs.Shown as shown
use Rattle.replies.specs.Answers.{asked_sets, asked_data, answerable}
use Rattle.replies.proofs.Good.{asked-shown}
use Rattle.deciding.specs.Verdicts.{Read}
use Rattle.commands.specs.Spoken.{Command, read_clock, read_serial, read_account, read_total, read_zone, read_total_out, read_zone_out, read_table, good_fields, letters_of}
use Rattle.judging.specs.Right.{tells_time, tells_date, tells_clock, tells_serial, tells_account, tells_counter, tells_energy, tells_export, tells_row, tells, answers, energy_opening, table_opening}
use Rattle.judging.specs.Lines.{is_line, value_in}
use Rattle.session.specs.Messages.{read_of}
use Rattle.session.specs.Turns.{right_read}
use Rattle.blocks.specs.Parts.{is_character, is_content}
use Rattle.datasets.proofs.Characters.{Within, within}
use Rattle.dialogue.specs.Messages.{allowed_at, decided_as, telling, obeyed}
use Rattle.promises.proofs.Ends.{counter-end-some, export-end-some, export-end-low}
use Rattle.recital.proofs.Registers.{row-good}
use Rattle.conversation.proofs.Right.{line, line-is, value-in-line, block-answers}

-- a line whose value passes a test
told : (opening value : List ℕ) (test : List ℕ → Bool) → test value ≡ true
    → (is_line opening (line opening value) && test (value_in opening (line opening value))) ≡ true
told opening value test h = rw (line-is opening value, value-in-line opening value) h

-- ---- each kind of line

time-told : (t : Time) → real_time t.hour t.minute t.second ≡ true → tells_time (data_set (time_set t).address (time_text t)) ≡ true
unfolding tells_time data_set
time-told t h = told (chars "0.9.1(") (time_text t) (λ s. (time_read s).ok) (rw (time-reads-back t h))

date-told : (d : Date) → real_date d.year d.month d.day ≡ true → tells_date (data_set (date_set d).address (date_text d)) ≡ true
unfolding tells_date data_set
date-told d h = told (chars "0.9.2(") (date_text d) (λ s. (date_read s).ok) (rw (date-reads-back d h))

time-line-long : (t : Time) → length (data_set (time_set t).address (time_text t)) ≡ 17
unfolding data_set time_text layout_text decimal
time-line-long t = refl

clock-told : (c : Clock) → real_clock c ≡ true → tells_clock (lines_of (time_set c.time ∷ date_set c.date ∷ [])) ≡ true
unfolding tells_clock lines_of real_clock
clock-told c h =
    let d = c.date in
    let t = c.time in
    let first = data_set (time_set t).address (time_text t) in
    let second = data_set (date_set d).address (date_text d) in
    let real-date = real_date d.year d.month d.day in
    let real-time = real_time t.hour t.minute t.second in
    rw (take_at first (second ++ []) 17 (time-line-long t), drop_at first (second ++ []) 17 (time-line-long t), append-nil second)
    (and_both (tells_time first) (tells_date second) (time-told t (and_right real-date real-time h)) (date-told d (and_left real-date real-time h)))

serial-told : (s : List ℕ) → good_serial s ≡ true → tells_serial (lines_of (serial_set s ∷ [])) ≡ true
unfolding tells_serial lines_of data_set
serial-told s h = rw (append-nil (data_set (serial_set s).address (serial_set s).value)) (told (chars "C.1.0(") (serial_set s).value (λ x. (serial_read x).ok) (rw (serial-reads-back s h)))

account-told : (s : List ℕ) → good_account s ≡ true → tells_account (lines_of (account_set s ∷ [])) ≡ true
unfolding tells_account lines_of data_set
account-told s h = rw (append-nil (data_set (account_set s).address s)) (told (chars "0.0.0(") s good_account h)

counter-told : (family : ℕ) (out : Bool) (n count : ℕ) → count < counter_end family
    → tells_counter family (energy_opening (energy_name family out) n) (lines_of (energy_set family out n count ∷ [])) ≡ true
unfolding tells_counter lines_of data_set
counter-told family out n count h =
    let set = energy_set family out n count in
    let name = energy_name family out in
    rw (append-nil (data_set set.address set.value), append_assoc name (decimal 1 n) (chars "(" ++ (set.value ++ chars ")\r\n")))
    (rw (append_assoc name (decimal 1 n ++ chars "(") (set.value ++ chars ")\r\n"), append_assoc (decimal 1 n) (chars "(") (set.value ++ chars ")\r\n"))
    at (told (energy_opening name n) set.value (λ s. (energy_read family s).ok) (rw (energy-reads-back family count h))))

energy-told : (family n count : ℕ) → count < counter_end family → tells_energy family n (lines_of (energy_set family false n count ∷ [])) ≡ true
unfolding tells_energy energy_name
energy-told family n count h = counter-told family false n count h

export-told : (family n count : ℕ) → count < counter_end family → tells_export family n (lines_of (energy_set family true n count ∷ [])) ≡ true
unfolding tells_export energy_name
export-told family n count h = counter-told family true n count h

row_told : (n : ℕ) (row : List ℕ) → good_row row ≡ true → tells_row n (lines_of (table_set n row ∷ [])) ≡ true
unfolding tells_row lines_of data_set table_text layout_text decimal
row_told n row h = rw (append-nil (data_set (table_set n row).address row)) (told (table_opening n) row good_row h)

-- ---- each read

-- a read, as the meter takes it and as the head judges its answer
pub record Answered (g : Registers) (c : Command) (judged : List ℕ → Bool) : Type 0 where
  pub asks : Ask
  pub decided : decided_as c ≡ Read asks
  pub allowed : (mode : ℕ) → (eqb mode 3 || eqb mode 4) ≡ true → allowed_at c mode ≡ true
  pub obeys : (m : Meter) → obeyed m c ≡ telling m asks
  pub can : answerable (tables_in g) asks ≡ true
  pub tells-it : judged (asked_data g asks) ≡ true

-- the chain of a read's letters, over the tests that it makes
abbrev read_by : Bool → Bool → Bool → Bool → Bool → Bool → Bool → ℕ → Command
read_by t l k e x o z n =
    cond t read_clock (cond l read_serial (cond k read_account (cond e (cond o read_total (read_zone n)) (cond x (cond o read_total_out (read_zone_out n)) (cond z (read_table n) (read_table 0))))))

abbrev tells_by : ℕ → Bool → Bool → Bool → Bool → Bool → Bool → ℕ → List ℕ → Bool
tells_by family t l k e x z n s =
    cond t (tells_clock s) (cond l (tells_serial s) (cond k (tells_account s) (cond e (tells_energy family n s) (cond x (tells_export family n s) (cond z (tells_row n s) false)))))

module _ (g : Registers) (good : registers_good g ≡ true) (n : ℕ) where
  by : (t l k e x o z : Bool) → eqb n 0 ≡ o → good_fields (tables_in g) (family_in g) (read_by t l k e x o z n) ≡ true → Answered g (read_by t l k e x o z n) (tells_by (family_in g) t l k e x z n)
  unfolding good_fields decided_as allowed_at letters_of same_text matching obeyed answerable asked_data asked_sets energy_no shown.energy
  by true l k e x o z zero_is h =
      record { asks = ask.Clock; decided = refl; allowed = λ mode a. a; obeys = λ m. refl; can = refl; tells-it = clock-told g.clock (formed-registers g good).clock }
  by false true k e x o z zero_is h =
      record {
        asks = ask.Serial;
        decided = refl;
        allowed = λ mode a. a;
        obeys = λ m. refl;
        can = refl;
        tells-it = serial-told g.facts.serial (formed-facts g.facts (formed-registers g good).facts).serial;
      }
  by false false true e x o z zero_is h =
      record { asks = ask.Account; decided = refl; allowed = λ mode a. a; obeys = λ m. refl; can = refl; tells-it = account-told g.account (formed-registers g good).account }
  by false false false true x true z zero_is h =
      record {
        asks = ask.Energy Total;
        decided = refl;
        allowed = λ mode a. a;
        obeys = λ m. refl;
        can = refl;
        tells-it = subst (λ (i : ℕ). tells_energy (family_in g) i (lines_of (energy_set (family_in g) false 0 g.counters.total ∷ [])) ≡ true) (sym (eqb-true n 0 zero_is))
            (energy-told (family_in g) 0 g.counters.total (total-small (counter_end (family_in g)) g.counters (counter-end-some (family_in g)) (formed-registers g good).counters));
      }
  by false false false true x false z zero_is h =
      record {
        asks = ask.Energy (zone_energy n);
        decided = refl;
        allowed = λ mode a. a;
        obeys = λ m. refl;
        can = refl;
        tells-it = energy-told (family_in g) n (counter_of g.counters n) (counter-small (counter_end (family_in g)) g.counters (counter-end-some (family_in g)) (formed-registers g good).counters n);
      }
  by false false false false true true z zero_is h =
      let end = export_end (family_in g) in
      record {
        asks = ask.Export Total;
        decided = refl;
        allowed = λ mode a. a;
        obeys = λ m. refl;
        can = refl;
        tells-it = subst (λ (i : ℕ). tells_export (family_in g) i (lines_of (energy_set (family_in g) true 0 g.exported.total ∷ [])) ≡ true) (sym (eqb-true n 0 zero_is))
            (export-told (family_in g) 0 g.exported.total (omega (arith, total-small end g.exported (export-end-some (family_in g)) (formed-registers g good).exported, export-end-low (family_in g))));
      }
  by false false false false true false z zero_is h =
      let end = export_end (family_in g) in
      record {
        asks = ask.Export (zone_energy n);
        decided = refl;
        allowed = λ mode a. a;
        obeys = λ m. refl;
        can = refl;
        tells-it = export-told (family_in g) n (counter_of g.exported n)
            (omega (arith, counter-small end g.exported (export-end-some (family_in g)) (formed-registers g good).exported n, export-end-low (family_in g)));
      }
  by false false false false false o true zero_is h =
      record {
        asks = ask.Table (record { 0 = n });
        decided = refl;
        allowed = λ mode a. a;
        obeys = λ m. refl;
        can = h;
        tells-it = row_told n (row_of g.tables n) (row-good g good n h);
      }
  by false false false false false o false zero_is h = absurd (none h)
    where
      none : good_table (tables_in g) 0 ≡ true → ⊥
      none e = omega (arith, leb-true 1 0 (unfold good_table between in (and_left (leb 1 0) (leb 0 (tables_in g)) e)))

  pub read-answered : (letter : ℕ) → good_fields (tables_in g) (family_in g) (read_of letter n) ≡ true → Answered g (read_of letter n) (tells (family_in g) letter n)
  unfolding read_of tells
  read-answered letter h = by (eqb letter 84) (eqb letter 76) (eqb letter 75) (eqb letter 69) (eqb letter 71) (eqb n 0) (eqb letter 90) refl h

-- ---- and so the reply is right

shown-content : Within (between 10 126) is_content
unfolding between is_content
shown-content = within (between 10 126) is_content refl (λ c h. omega (arith, leb-true c 126 (and_right (leb 10 c) (leb c 126) h)))

shown-character : Within (between 10 126) is_character
unfolding between is_character
shown-character = within (between 10 126) is_character refl (λ c h. omega (arith, leb-true c 126 (and_right (leb 10 c) (leb c 126) h)))

module _ (g : Registers) (good : registers_good g ≡ true) (letter n : ℕ) (built : good_fields (tables_in g) (family_in g) (read_of letter n) ≡ true) where
  pub read_right : (a : Ask) → answerable (tables_in g) a ≡ true → tells (family_in g) letter n (asked_data g a) ≡ true → right_read (tables_in g) (family_in g) letter n (on_wire (block_of (asked_data g a))) ≡ true
  unfolding right_read
  read_right a can h =
      let s = asked-shown g a good can in
      and_both (good_fields (tables_in g) (family_in g) (read_of letter n)) (answers (family_in g) letter n (on_wire (block_of (asked_data g a)))) built
      (block-answers (asked_data g a) (every-weaker (between 10 126) is_content shown-content (asked_data g a) s)
      (every-weaker (between 10 126) is_character shown-character (asked_data g a) s) (family_in g) letter n h)
