-- A well-formed state stays well-formed, whatever happens: by a character, silence, a tick, a pulse, power-up. Assumes nothing.
use mathlib.Core.Path.{◌≡◌, refl, sym, ap}
use mathlib.Core.Bool.{Bool, true, false, cond, not, ◌&&◌, ◌||◌}
use mathlib.Core.Logic.{◌⊎◌, inl, inr}
use mathlib.Core.List.{List, [], ◌∷◌, ◌++◌}
use Prim.Native.Nat.{ℕ, zero, suc, ◌+◌, ◌-◌, ◌*◌, ◌%◌, ◌<◌, ◌≤◌}
use native.Mathlib.Omega.{arith}
use native.Mathlib.Nat.{mod-lt}
use borrow.Author.Tests.{le-leb, lt-ltb, ltb-true, eq-eqb, ne_eqb, eqb-true, eqb-false}
use lib.Dec.{eqb, leb, ltb}
use lib.ListN.{length, take, drop, get_or, set, length-set}
use lib.Seq.{drop-nil, drop-set-lt, get_or-set_other}
use Rattle.line.specs.Runs.{every}
use Rattle.line.specs.Characters.{damaged_at, seven}
use Rattle.line.proofs.Runs.{and_left, and_right, and_both, every_set}
use Rattle.line.proofs.Parity.{seven-lt}
use Rattle.text.specs.Classes.{between, same_text}
use Rattle.text.proofs.Matching.{same-is}
use Rattle.clock.specs.Seconds.{real_clock, next_second}
use Rattle.clock.specs.declared.Clock.{Clock}
use Rattle.clock.proofs.Real.{next-second-real}
use Rattle.values.specs.declared.TableNo.{TableNo}
use Rattle.values.specs.Edition.{is_edition}
use Rattle.values.specs.Registers.{good_account, good_row, good_table}
use Rattle.values.specs.Family.{counter_end, export_end}
use Rattle.state.specs.Sizes.{reply_room, held_places}
use Rattle.state.specs.declared.Receiver.{Receiver}
use Rattle.state.specs.declared.Counters.{Counters}
use Rattle.state.specs.declared.Archive.{Archive}
use Rattle.state.specs.declared.Registers.{Registers}
use Rattle.frames.specs.Session.{speed_said, confirmation}
use Rattle.state.specs.declared.Meter.{Meter}
use Rattle.state.specs.Link.{link_of, is_wired, rest_speed}
use Rattle.state.specs.WellFormed.{family_of, limit, first_good, mark_good, held_good, receiver_good, below, zones_below, sum_of, total, counters_good, tables_in, family_in, edition_of, archive_good, registers_good, well_formed, marked, speed_good, hurt_good}
use Rattle.state.specs.Making.{empty_receiver}
use Rattle.state.specs.Closing.{period_of, closing}
use Rattle.state.proofs.Rows.{row-good}
use Rattle.state.proofs.Parts.{Formed, formed, well-formed, FormedRegisters, formed-registers, registers-good, FormedReceiver, formed-receiver, receiver-good, total-is-sum, speed-kept, fast-good}
use Rattle.state.proofs.Totals.{grows-alike}
use Rattle.state.specs.Setting.{with_receiver, in_mode, with_attempts, with_registers, with_clock, with_account, with_tables, with_archive, with_counters, with_exported, with_zones, with_total, with_row, row_start, zone_place, counter_of, with_speed}
use Rattle.tariff.specs.Zones.{zone_in, grown, counted, counted_in, counted_out}
use Rattle.tariff.specs.Months.{month_starts, month_closed, second_later}
use Rattle.receiving.specs.declared.Hearing.{Hearing}
use Rattle.receiving.specs.declared.Hearing.TheVariants.{Drop, Hold, Restart, Empty, Line, Confirm, Frame, TooLong}
use Rattle.receiving.specs.Hearing.{hearing}
use Rattle.receiving.specs.Receivers.{held_text, last_held, kept_receiver, restarted_receiver}
use Rattle.receiving.proofs.Laws.{Room, hold-room, restart-first}
use Rattle.deciding.specs.Verdicts.{Verdict}
use Rattle.deciding.specs.Verdict.{verdict}
use Rattle.meter.specs.Outcomes.{Outcome}
use Rattle.meter.specs.Link.{slow_too, after_refusal}
use Rattle.meter.specs.SignOn.{signs_on_by, closes_by, confirms, wants_block, wants_periods, wants_program}
use Rattle.meter.specs.Acting.{password_given, account_given, row_given, tried, acted}
use Rattle.meter.specs.Character.{symbol, period_closed, line_ended, confirmed_speed, confirmed, heard, taken, character}
use Rattle.meter.specs.Events.{after_silence, pulse_refused, silence, tick, pulse, power_up}
use Rattle.promises.proofs.Choices as choice
use Rattle.promises.proofs.Ends.{counter-end-some, export-end-some}
use Rattle.promises.proofs.Months.{closed-archive, period-good}
use Rattle.promises.proofs.Pieces.{account-is, row_is}
use Rattle.promises.proofs.Verdicts.{Told, Known, verdict-all}

-- the next state of an outcome is well-formed
Stays : Outcome → Type 0
Stays o = well_formed o.next ≡ true

-- ---- runs with one more

every-next : (p : ℕ → Bool) (l : List ℕ) (i : ℕ) → every p (drop i l) ≡ true → every p (drop (i + 1) l) ≡ true
unfolding every
every-next p [] zero h = h
every-next p [] (suc i) h = rw (drop-nil (suc i + 1))
every-next p (x ∷ l) zero h = and_right (p x) (every p l) h
every-next p (x ∷ l) (suc i) h = rw (suc-first i) (every-next p l i h)
  where
    suc-first : (k : ℕ) → suc k + 1 ≡ suc (k + 1)
    suc-first k = omega arith

-- ---- receivers

symbol-small : (b : ℕ) → between 0 127 (symbol b) ≡ true
unfolding symbol between
symbol-small b = choice.either (λ (c : ℕ). (leb 0 c && leb c 127) ≡ true) (damaged_at b) refl (small (seven b) (seven-lt b))
  where
    small : (c : ℕ) → c < 128 → (leb 0 c && leb c 127) ≡ true
    small c h = rw (le-leb 0 c (omega arith), le-leb c 127 (omega arith))

pub empty-good : (mode : ℕ) → receiver_good mode empty_receiver ≡ true
unfolding held_good first_good mark_good hurt_good every between
empty-good mode =
    receiver-good mode empty_receiver
    (record { count = omega arith; first = choice.either (λ (b : Bool). b ≡ true) (eqb mode 0) refl refl; mark = refl; hurt = refl; held = refl })

one-fits : (mode : ℕ) → 1 ≤ limit mode
unfolding limit
one-fits mode = choice.either (λ (k : ℕ). 1 ≤ k) (eqb mode 0) (omega arith) (choice.either (λ (k : ℕ). 1 ≤ k) (eqb mode 1) (omega arith) (omega arith))

restarted-good : (mode c : ℕ) → first_good mode 1 c ≡ true → between 0 127 c ≡ true → receiver_good mode (restarted_receiver c) ≡ true
unfolding held_good mark_good hurt_good every
restarted-good mode c f s =
    receiver-good mode (restarted_receiver c)
    (record { count = one-fits mode; first = f; mark = refl; hurt = refl; held = rw s (unfold between in refl) })

held_kept : (held : List ℕ) (k c : ℕ) → held_good held k ≡ true → between 0 127 c ≡ true → held_good (set held k c) (k + 1) ≡ true
unfolding held_good
held_kept held k c h t =
    let long = and_left (eqb (length held) held_places) _ h in
    let rest = and_right (eqb (length held) held_places) (every (between 0 127) held && every (between 0 0) (drop k held)) h in
    let all = and_left (every (between 0 127) held) (every (between 0 0) (drop k held)) rest in
    let zeros = and_right (every (between 0 127) held) (every (between 0 0) (drop k held)) rest in
    let past : drop (k + 1) (set held k c) ≡ drop (k + 1) held = drop-set-lt (k + 1) held k c (omega arith) in
    rw (length-set held k c, long, every_set (between 0 127) held k c all t, past) (every-next (between 0 0) held k zeros)

-- the first stays the first, or there was none before in mode 1
first-kept : (mode k : ℕ) (held : List ℕ) (c : ℕ) → first_good mode k (get_or held 0 0) ≡ true → (k ≡ 0 → ⊥) ⊎ (mode ≡ 1)
    → first_good mode (k + 1) (get_or (set held k c) 0 0) ≡ true
unfolding first_good
first-kept mode k held c h (inl ne) =
    let stays : get_or (set held k c) 0 0 ≡ get_or held 0 0 = get_or-set_other held k 0 c 0 (λ e. ne (sym e)) in
    let grew = ne_eqb (k + 1) 0 (λ e. omega arith) in
    let was = ne_eqb k 0 ne in
    rw (stays, grew) (rw was at h)
first-kept mode k held c h (inr one) = rw (one, ne_eqb (k + 1) 0 (λ e. omega arith))

mark-kept : (k mark : ℕ) (d : Bool) → mark_good k mark ≡ true → mark_good (k + 1) (cond d 1 mark) ≡ true
unfolding mark_good
mark-kept k mark true h = rw (ne_eqb (k + 1) 0 (λ e. omega arith))
mark-kept k mark false h = rw (and_left (leb mark 1) (not (eqb k 0) || eqb mark 0) h, ne_eqb (k + 1) 0 (λ e. omega arith))

-- the first damaged one stays the first
hurt-kept : (k mark place : ℕ) (d : Bool) → hurt_good k mark place ≡ true → hurt_good (k + 1) (cond d 1 mark) (cond (eqb mark 1) place (cond d k 0)) ≡ true
unfolding hurt_good
hurt-kept k mark place d h = go (eqb mark 1) refl d h
  where
    go : (p : Bool) → eqb mark 1 ≡ p → (d : Bool) → cond p (ltb place k) (eqb place 0) ≡ true
        → cond (eqb (cond d 1 mark) 1) (ltb (cond p place (cond d k 0)) (k + 1)) (eqb (cond p place (cond d k 0)) 0) ≡ true
    go true e true h = lt-ltb place (k + 1) (omega (arith, ltb-true place k h))
    go true e false h = rw e (lt-ltb place (k + 1) (omega (arith, ltb-true place k h)))
    go false e true h = lt-ltb k (k + 1) (omega arith)
    go false e false h = rw e

kept-good : (mode : ℕ) (r : Receiver) (c : ℕ) (d : Bool) → receiver_good mode r ≡ true → Room mode r.count → between 0 127 c ≡ true
    → receiver_good mode (kept_receiver r c d) ≡ true
kept-good mode r c d g room s =
    let f = formed-receiver mode r g in
    receiver-good mode (kept_receiver r c d)
    (record {
      count = omega (arith, room.below);
      first = first-kept mode r.count r.held c f.first room.started;
      mark = mark-kept r.count r.mark d f.mark;
      hurt = hurt-kept r.count r.mark r.place d f.hurt;
      held = held_kept r.held r.count c f.held s;
    })

-- ---- states

in-mode : (m : Meter) (mode : ℕ) → well_formed m ≡ true → mode ≤ 4 → well_formed (in_mode m mode) ≡ true
in-mode m mode h k =
    let f = formed m h in
    well-formed (in_mode m mode) (record { mode = k; attempts = f.attempts; speed = speed-kept (link_of m) m.mode mode m.speed f.speed; receiver = empty-good mode; registers = f.registers })

with-receiver : (m : Meter) (r : Receiver) → well_formed m ≡ true → receiver_good m.mode r ≡ true → well_formed (with_receiver m r) ≡ true
with-receiver m r h k =
    let f = formed m h in
    well-formed (with_receiver m r) (record { mode = f.mode; attempts = f.attempts; speed = f.speed; receiver = k; registers = f.registers })

with-attempts : (m : Meter) (a : ℕ) → well_formed m ≡ true → a ≤ 3 → well_formed (with_attempts m a) ≡ true
with-attempts m a h k =
    let f = formed m h in
    well-formed (with_attempts m a) (record { mode = f.mode; attempts = k; speed = f.speed; receiver = f.receiver; registers = f.registers })

-- registers of the same link
with-registers : (m : Meter) (g : Registers) → well_formed m ≡ true → registers_good g ≡ true → g.facts.link ≡ link_of m → well_formed (with_registers m g) ≡ true
with-registers m g h k same =
    let f = formed m h in
    well-formed (with_registers m g) (record { mode = f.mode; attempts = f.attempts; speed = rw same f.speed; receiver = f.receiver; registers = k })

with-speed : (m : Meter) (s : ℕ) → well_formed m ≡ true → speed_good (link_of m) m.mode s ≡ true → well_formed (with_speed m s) ≡ true
with-speed m s h k =
    let f = formed m h in
    well-formed (with_speed m s) (record { mode = f.mode; attempts = f.attempts; speed = k; receiver = f.receiver; registers = f.registers })

-- whatever digit was confirmed, its speed is one of a session; on the wired link it is '5'
said-good : (link v : ℕ) → (is_wired link ≡ true → v ≡ 53) → speed_good link 2 (speed_said v) ≡ true
unfolding speed_said
said-good link v five =
    choice.told (λ (s : ℕ). speed_good link 2 s ≡ true) (eqb v 53) (λ e. fast-good link 2 (omega arith)) (λ e. slow (is_wired link) refl e)
  where
    slow : (w : Bool) → is_wired link ≡ w → eqb v 53 ≡ false → speed_good link 2 0 ≡ true
    slow true w e = absurd (eqb-false v 53 e (five w))
    slow false w e = unfold speed_good rest_speed in rw w

-- the third of the characters that are held, and one more
third : (n : ℕ) (held : List ℕ) (c v y : ℕ) → take n held ++ (c ∷ []) ≡ 6 ∷ 48 ∷ v ∷ y ∷ 13 ∷ 10 ∷ [] → get_or held 2 0 ≡ v
third zero held c v y e = absurd (omega (arith, ap length e))
third (suc n) [] c v y e = absurd (omega (arith, ap length e))
third (suc zero) (a ∷ held) c v y e = absurd (omega (arith, ap length e))
third (suc (suc n)) (a ∷ []) c v y e = absurd (omega (arith, ap length e))
third (suc (suc zero)) (a ∷ b ∷ held) c v y e = absurd (omega (arith, ap length e))
third (suc (suc (suc n))) (a ∷ b ∷ []) c v y e = absurd (omega (arith, ap length e))
third (suc (suc (suc n))) (a ∷ b ∷ x ∷ held) c v y e = ap (λ (l : List ℕ). get_or l 2 0) e

-- what starts a session on the wired link has the digit '5'
five-said : (link n : ℕ) (held : List ℕ) (c : ℕ) → wants_program link (take n held) c ≡ true → is_wired link ≡ true → get_or held 2 0 ≡ 53
unfolding wants_program confirms slow_too confirmation
five-said link n held c h w =
    let five = same_text (take n held ++ (c ∷ [])) (6 ∷ 48 ∷ 53 ∷ 49 ∷ 13 ∷ 10 ∷ []) in
    third n held c 53 49 (same-is (take n held ++ (c ∷ [])) (6 ∷ 48 ∷ 53 ∷ 49 ∷ 13 ∷ 10 ∷ []) (alone five (rw w at h)))
  where
    alone : (p : Bool) → (p || false) ≡ true → p ≡ true
    alone true h = refl
    alone false h = h

own : (m : Meter) → well_formed m ≡ true → FormedRegisters m.registers
own m h = formed-registers m.registers (formed m h).registers

clock-good : (g : Registers) (c : Clock) → FormedRegisters g → real_clock c ≡ true → registers_good (with_clock g c) ≡ true
clock-good g c f k =
    registers-good (with_clock g c) (record { facts = f.facts; account = f.account; clock = k; counters = f.counters; exported = f.exported; tables = f.tables; archive = f.archive })

account-good : (g : Registers) (a : List ℕ) → FormedRegisters g → good_account a ≡ true → registers_good (with_account g a) ≡ true
account-good g a f k =
    registers-good (with_account g a) (record { facts = f.facts; account = k; clock = f.clock; counters = f.counters; exported = f.exported; tables = f.tables; archive = f.archive })

tables-good : (g : Registers) (n : ℕ) (row : List ℕ) → FormedRegisters g → good_table (tables_in g) n ≡ true → good_row row ≡ true
    → registers_good (with_tables g (with_row g.tables n row)) ≡ true
tables-good g n row f there k =
    registers-good (with_tables g (with_row g.tables n row))
    (record { facts = f.facts; account = f.account; clock = f.clock; counters = f.counters; exported = f.exported; tables = row-good (tables_in g) g.tables n row f.tables there k; archive = f.archive })

counters-good : (g : Registers) (c : Counters) → FormedRegisters g → counters_good (counter_end (family_in g)) c ≡ true → registers_good (with_counters g c) ≡ true
counters-good g c f k =
    registers-good (with_counters g c) (record { facts = f.facts; account = f.account; clock = f.clock; counters = k; exported = f.exported; tables = f.tables; archive = f.archive })

exported-good : (g : Registers) (c : Counters) → FormedRegisters g → counters_good (export_end (family_in g)) c ≡ true → registers_good (with_exported g c) ≡ true
exported-good g c f k =
    registers-good (with_exported g c) (record { facts = f.facts; account = f.account; clock = f.clock; counters = f.counters; exported = k; tables = f.tables; archive = f.archive })

-- [12]: a period closed
archive-good : (g : Registers) (a : Archive) → FormedRegisters g → archive_good (family_in g) a ≡ true → registers_good (with_archive g a) ≡ true
archive-good g a f k =
    registers-good (with_archive g a) (record { facts = f.facts; account = f.account; clock = f.clock; counters = f.counters; exported = f.exported; tables = f.tables; archive = k })

closing-good : (g : Registers) → registers_good g ≡ true → registers_good (closing g) ≡ true
closing-good g h =
    let f = formed-registers g h in
    archive-good g _ f
    (closed-archive (family_in g) (period_of g.clock g.counters g.exported) g.archive f.archive
    (period-good (family_in g) g.clock g.counters g.exported f.clock f.counters f.exported))

-- a pulse leaves every counter below its end, and the total their sum
grown-good : (end : ℕ) (c : Counters) (zone units : ℕ) → 1 ≤ end → counters_good end c ≡ true → zone_place zone < 4
    → counters_good end (with_total (with_zones c (set c.zones (zone_place zone) (grown end (counter_of c zone) units))) (grown end c.total units)) ≡ true
unfolding zones_below total
grown-good end c zone units some h few =
    let i = zone_place zone in
    let next = set c.zones i (grown end (counter_of c zone) units) in
    let zones = and_left (zones_below end c.zones) (eqb c.total (total end c)) h in
    let four = and_left (eqb (length c.zones) 4) (every (below end) c.zones) zones in
    let all = and_right (eqb (length c.zones) 4) (every (below end) c.zones) zones in
    let there : i < length c.zones = omega (arith, few, eqb-true (length c.zones) 4 four) in
    let kept : grown end c.total units ≡ sum_of next % end = rw (total-is-sum end c h) (sym (grows-alike end c.zones i units there)) in
    let good = every_set (below end) c.zones i (grown end (counter_of c zone) units) all (small (counter_of c zone)) in
    and_both (zones_below end next) (eqb (grown end c.total units) (sum_of next % end))
    (rw (length-set c.zones i (grown end (counter_of c zone) units), four) good)
    (eq-eqb (grown end c.total units) (sum_of next % end) kept)
  where
    small : (n : ℕ) → below end (grown end n units) ≡ true
    small n = unfold below in (lt-ltb (grown end n units) end (mod-lt _ some))

counted-good : (end : ℕ) (c : Counters) (zone units : ℕ) → 1 ≤ end → counters_good end c ≡ true → counters_good end (counted end c zone units) ≡ true
unfolding counted
counted-good end c zone units some h =
    choice.told (λ (k : Counters). counters_good end k ≡ true) (ltb (zone_place zone) 4)
    (λ e. grown-good end c zone units some h (ltb-true (zone_place zone) 4 e)) (λ e. h)

-- ---- a character

fallen-small : (link mode : ℕ) → mode ≤ 4 → after_refusal link mode ≤ 4
unfolding after_refusal
fallen-small link mode h = choice.either (λ (k : ℕ). k ≤ 4) (is_wired link || eqb mode 2) (omega arith) h

module _ (m : Meter) (h : well_formed m ≡ true) where
  falls : well_formed (in_mode m (after_refusal (link_of m) m.mode)) ≡ true
  falls = in-mode m (after_refusal (link_of m) m.mode) h (fallen-small (link_of m) m.mode (formed m h).mode)

  tried-stays : Stays (tried m)
  unfolding tried Stays
  tried-stays =
      let f = formed m h in
      choice.told Stays (eqb m.attempts 3) (λ e. falls)
      (λ e.
      let below : m.attempts + 1 ≤ 3 = omega (arith, f.attempts, eqb-false m.attempts 3 e) in
      choice.either Stays (same_text (password_given m) m.registers.facts.password)
      (in-mode (with_attempts m 0) 4 (with-attempts m 0 h (omega arith)) (omega arith))
      (in-mode (with_attempts m (m.attempts + 1)) (after_refusal (link_of m) m.mode) (with-attempts m (m.attempts + 1) h below) (fallen-small (link_of m) m.mode f.mode)))

  wrote-stays : (g : Registers) → registers_good g ≡ true → g.facts.link ≡ link_of m → well_formed (with_receiver (with_registers m g) empty_receiver) ≡ true
  wrote-stays g k same = with-receiver (with_registers m g) empty_receiver (with-registers m g h k same) (empty-good m.mode)

  frame-stays : (mark : Bool) (sum : ℕ) → Stays (acted m (verdict (tables_in m.registers) (family_of m) m.mode (held_text m.receiver) mark sum))
  unfolding acted Stays
  frame-stays mark sum =
      verdict-all (λ (v : Verdict). Stays (acted m v)) (tables_in m.registers) (family_of m) m.mode (held_text m.receiver) mark sum
      (record {
        refuse = λ n k. falls;
        leave = in-mode m 0 h (omega arith);
        enter = λ e. in-mode m 3 h (omega arith);
        password = λ e w. tried-stays;
        read = λ a k. with-receiver m empty_receiver h (empty-good m.mode);
        write = λ e f.
            record {
              clock = λ c i r. wrote-stays _ (clock-good m.registers c (own m h) r) refl;
              account = λ r. wrote-stays _ (account-good m.registers (account_given m) (own m h) (account-is m.receiver.count m.receiver.held r)) refl;
              table = λ t i g r.
                  choice.either Stays (good_table (tables_in m.registers) t.0)
                  (wrote-stays _ (tables-good m.registers t.0 (row_given m) (own m h) g (row_is m.receiver.count m.receiver.held r)) refl)
                  falls;
              wrong = falls;
            };
      })

  heard-stays : (c : ℕ) (d : Bool) (k : Hearing) → hearing m.mode m.receiver.count (last_held m.receiver) c ≡ k → between 0 127 c ≡ true → Stays (heard m c d k)
  unfolding heard Stays line_ended confirmed
  heard-stays c d Drop e s = h
  heard-stays c d Hold e s =
      with-receiver m _ h (kept-good m.mode m.receiver c d (formed m h).receiver (hold-room m.mode m.receiver.count (last_held m.receiver) c e) s)
  heard-stays c d Restart e s = with-receiver m _ h (restarted-good m.mode c (restart-first m.mode m.receiver.count (last_held m.receiver) c e) s)
  heard-stays c d Empty e s = with-receiver m _ h (empty-good m.mode)
  heard-stays c d Line e s =
      choice.either Stays (marked m.receiver) (in-mode m 0 h (omega arith))
      (choice.either Stays (signs_on_by (link_of m) (held_text m.receiver) m.registers.facts.serial) (in-mode m 1 h (omega arith))
      (choice.either Stays (closes_by (link_of m) (held_text m.receiver))
      (in-mode (period_closed m) 1 (with-registers m _ h (closing-good m.registers (formed m h).registers) refl) (omega arith)) (in-mode m 0 h (omega arith))))
  heard-stays c d Confirm e s =
      choice.either Stays (marked m.receiver || d) (in-mode m 0 h (omega arith))
      (choice.either Stays (wants_block (link_of m) (held_text m.receiver) c) (in-mode m 0 h (omega arith))
      (choice.either Stays (wants_periods (link_of m) (held_text m.receiver) c) (in-mode m 0 h (omega arith))
      (choice.given Stays (wants_program (link_of m) (held_text m.receiver) c)
      (λ e.
      with-speed (in_mode m 2) (confirmed_speed m) (in-mode m 2 h (omega arith))
      (said-good (link_of m) (get_or m.receiver.held 2 0) (five-said (link_of m) m.receiver.count m.receiver.held c e)))
      (in-mode m 0 h (omega arith)))))
  heard-stays c d Frame e s = frame-stays (marked m.receiver || d) c
  heard-stays c d TooLong e s = falls

  pub character-stays : (room b : ℕ) → well_formed (character m room b).next ≡ true
  unfolding character taken Stays
  character-stays room b =
      choice.either Stays (is_edition (edition_of m))
      (choice.either Stays (ltb room reply_room) h
      (choice.either Stays (well_formed m)
      (heard-stays (symbol b) (damaged_at b) (hearing m.mode m.receiver.count (last_held m.receiver) (symbol b)) refl (symbol-small b)) h))
      h

  -- ---- the other events

  pub silence-stays : (room : ℕ) → well_formed (silence m room).next ≡ true
  unfolding silence after_silence Stays
  silence-stays room =
      let off = in-mode m 0 h (omega arith) in
      choice.either Stays (is_edition (edition_of m))
      (choice.either Stays (ltb room reply_room) h
      (choice.either Stays (well_formed m) (choice.either Stays (eqb m.mode 0) off (choice.either Stays (eqb m.mode 1) off off)) h))
      h

  second-good : registers_good (second_later m.registers) ≡ true
  unfolding month_closed
  second-good =
      let g = m.registers in
      let next = clock-good g (next_second g.clock) (own m h) (next-second-real g.clock (own m h).clock) in
      choice.either (λ (x : Registers). registers_good x ≡ true) (month_starts (next_second g.clock)) (closing-good (with_clock g (next_second g.clock)) next) next

  same-link : (second_later m.registers).facts.link ≡ link_of m
  unfolding month_closed
  same-link = choice.either (λ (x : Registers). x.facts.link ≡ link_of m) (month_starts (next_second m.registers.clock)) refl refl

  pub tick-stays : well_formed (tick m).next ≡ true
  unfolding tick Stays
  tick-stays =
      choice.either Stays (is_edition (edition_of m)) (choice.either Stays (well_formed m) (with-registers m (second_later m.registers) h second-good same-link) h) h

  counted-stays : (out : Bool) (units : ℕ) → well_formed (with_registers m (cond out (counted_out m.registers units) (counted_in m.registers units))) ≡ true
  counted-stays true units =
      let g = m.registers in
      let end = export_end (family_in g) in
      with-registers m _ h (exported-good g _ (own m h) (counted-good end g.exported (zone_in g) units (export-end-some (family_in g)) (own m h).exported)) refl
  counted-stays false units =
      let g = m.registers in
      let end = counter_end (family_in g) in
      with-registers m _ h (counters-good g _ (own m h) (counted-good end g.counters (zone_in g) units (counter-end-some (family_in g)) (own m h).counters)) refl

  pub pulse-stays : (out : Bool) (units : ℕ) → well_formed (pulse m out units).next ≡ true
  unfolding pulse Stays
  pulse-stays out units =
      choice.either Stays (is_edition (edition_of m))
      (choice.either Stays (pulse_refused (family_of m) out units) h (choice.either Stays (well_formed m) (counted-stays out units) h))
      h

  pub power-up-stays : well_formed (power_up m).next ≡ true
  unfolding power_up Stays
  power-up-stays =
      choice.either Stays (is_edition (edition_of m))
      (choice.either Stays (well_formed m) (with-attempts (in_mode m 0) 0 (in-mode m 0 h (omega arith)) (omega arith)) h) h
