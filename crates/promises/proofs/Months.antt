-- [12]: the archive changes exactly at the tick that starts a month and at the end of an unmarked `/C!` line, over all events; and a
-- period closed keeps the archive good. Assumes nothing.
use mathlib.Core.Path.{◌≡◌, refl, sym, ap, ◌∙◌}
use mathlib.Core.Bool.{Bool, true, false, cond, not, ◌&&◌, ◌||◌}
use mathlib.Core.List.{List, [], ◌∷◌, ◌++◌}
use Prim.Native.Nat.{ℕ, zero, suc, ◌+◌, ◌-◌, ◌≤◌, ◌<◌}
use native.Mathlib.Omega.{arith}
use borrow.Author.Tests.{le-leb, lt-leb, eq-eqb, ne_eqb, eqb-true, ltb-true, ltb-false}
use lib.Dec.{eqb, leb, ltb}
use lib.ListN.{length, take, drop, replicate, length-append, length-replicate, length-take}
use lib.Seq.{take-append_seam, drop-append_seam}
use Rattle.line.specs.Runs.{every}
use Rattle.line.specs.Characters.{damaged_at}
use Rattle.line.proofs.Runs.{and_left, and_right, and_both}
use Rattle.text.specs.Classes.{same_text, matching}
use Rattle.values.specs.Family.{counter_end, export_end}
use Rattle.values.specs.Registers.{good_table}
use Rattle.clock.specs.Seconds.{real_clock, real_stamp, stamp_of, next_second}
use Rattle.clock.specs.declared.Clock.{Clock}
use Rattle.clock.proofs.Real.{stamp-real}
use Rattle.frames.specs.Session.{closing_sign_on}
use Rattle.state.specs.Sizes.{reply_room, period_places}
use Rattle.state.specs.declared.Period.{Period}
use Rattle.state.specs.declared.Counters.{Counters}
use Rattle.state.specs.declared.Archive.{Archive}
use Rattle.state.specs.declared.Registers.{Registers}
use Rattle.state.proofs.Parts.{edition-good}
use Rattle.state.specs.declared.Meter.{Meter}
use Rattle.state.specs.Link.{link_of, is_wired}
use Rattle.state.specs.WellFormed.{family_of, below, zones_below, both_below, total, counters_good, no_time, period_good, unused, every_period, archive_good, well_formed, marked, tables_in}
use Rattle.state.specs.Making.{no_period}
use Rattle.state.specs.Closing.{archive_of, periods_of, closed_with, period_of, closing}
use Rattle.state.proofs.Archives.{formed-archive}
use Rattle.receiving.specs.declared.Hearing.{Hearing}
use Rattle.receiving.specs.declared.Hearing.TheVariants.{Drop, Hold, Restart, Empty, Line, Confirm, Frame, TooLong}
use Rattle.receiving.specs.Hearing.{listening, hearing}
use Rattle.receiving.specs.Receivers.{held_text, last_held}
use Rattle.deciding.specs.Verdicts.{Verdict}
use Rattle.deciding.specs.Verdict.{verdict}
use Rattle.tariff.specs.Months.{month_starts, month_closed}
use Rattle.state.specs.Setting.{in_mode, with_clock}
use Rattle.meter.specs.Outcomes.{Outcome, silent, unheard}
use Rattle.meter.specs.Link.{closes}
use Rattle.meter.specs.SignOn.{signs_on_by, closes_by, wants_block, wants_periods, wants_program}
use Rattle.meter.specs.Acting.{password_given, tried, acted}
use Rattle.meter.specs.Character.{symbol, signed_on, period_closed, line_ended, confirmed, heard, taken, character}
use Rattle.meter.specs.Events.{after_silence, pulse_refused, silence, tick, pulse, power_up}
use Rattle.meter.specs.declared.Event.{Event}
use Rattle.meter.specs.declared.Event.TheVariants.{Character, Silence, Tick, Pulse, PowerUp, PulseOut, Unknown}
use Rattle.meter.specs.Life.{met}
use Rattle.promises.specs.Months.{closes_here, closes_at, closing_time, archive_after}
use Rattle.promises.proofs.Choices as choice
use Rattle.promises.proofs.Lines.{line-is, closes-only}
use Rattle.promises.proofs.Verdicts.{Told, Known, verdict-all}

-- ---- an archive with one more period is good

first_some : (p : Period → Bool) (n : ℕ) (s : List Period) → every_period p s ≡ true → every_period p (take n s) ≡ true
unfolding every_period
first_some p zero s h = refl
first_some p (suc n) [] h = refl
first_some p (suc n) (x ∷ s) h = and_both (p x) (every_period p (take n s)) (and_left (p x) (every_period p s) h) (first_some p n s (and_right (p x) (every_period p s) h))

none-used : (n : ℕ) → every_period unused (replicate n no_period) ≡ true
unfolding every_period unused no_time both_below zones_below every below
none-used zero = refl
none-used (suc n) = none-used n

few : (n : ℕ) (s : List Period) → length (take n s) ≤ n
few zero s = omega arith
few (suc n) [] = omega arith
few (suc n) (x ∷ s) = omega (arith, few n s)

of-good : (family : ℕ) (ps : List Period) → length ps ≤ period_places → every_period (period_good family) ps ≡ true → archive_good family (archive_of ps) ≡ true
unfolding archive_good
of-good family ps n h =
    let rest = replicate (period_places - length ps) no_period in
    let long : length (ps ++ rest) ≡ period_places = length-append ps rest ∙ omega (arith, length-replicate (period_places - length ps) no_period, n) in
    rw (le-leb (length ps) period_places n, eq-eqb (length (ps ++ rest)) period_places long, take-append_seam ps rest, drop-append_seam ps rest, h, none-used (period_places - length ps))

pub closed-archive : (family : ℕ) (p : Period) (a : Archive) → archive_good family a ≡ true → period_good family p ≡ true → archive_good family (closed_with p a) ≡ true
unfolding closed_with periods_of every_period
closed-archive family p a h k =
    let kept = take a.count a.periods in
    of-good family (take period_places (p ∷ kept)) (few period_places (p ∷ kept))
    (first_some (period_good family) period_places (p ∷ kept) (and_both (period_good family p) (every_period (period_good family) kept) k (formed-archive family a h).good))

pub period-good : (family : ℕ) (clock : Clock) (c x : Counters) → real_clock clock ≡ true → counters_good (counter_end family) c ≡ true → counters_good (export_end family) x ≡ true
    → period_good family (period_of clock c x) ≡ true
unfolding period_good both_below
period-good family clock c x h k l =
    let came = zones_below (counter_end family) c.zones in
    let went = zones_below (export_end family) x.zones in
    and_both (real_stamp (stamp_of clock)) (came && went) (stamp-real clock h)
    (and_both came went (and_left came (eqb c.total (total (counter_end family) c)) k) (and_left went (eqb x.total (total (export_end family) x)) l))

-- ---- the archive after a character

nothing-closes : (link : ℕ) → closes_by link [] ≡ false
unfolding closes closing_sign_on same_text matching
nothing-closes link = never (not (is_wired link))
  where
    never : (b : Bool) → (b && false) ≡ false
    never true = refl
    never false = refl

module _ (m : Meter) where
  abbrev now-kept : Archive
  now-kept = m.registers.archive

  abbrev later : Archive
  later = closed_with (period_of m.registers.clock m.registers.counters m.registers.exported) m.registers.archive

  abbrev kept_in : Outcome → Archive
  kept_in o = o.next.registers.archive

  line-keeps : kept_in (line_ended m) ≡ cond (not (marked m.receiver) && closes_by (link_of m) (held_text m.receiver)) later now-kept
  unfolding line_ended
  line-keeps = go (marked m.receiver) (signs_on_by (link_of m) (held_text m.receiver) m.registers.facts.serial) refl (closes_by (link_of m) (held_text m.receiver)) refl
    where
      go : (p q : Bool) → signs_on_by (link_of m) (held_text m.receiver) m.registers.facts.serial ≡ q → (r : Bool) → closes_by (link_of m) (held_text m.receiver) ≡ r
          → kept_in (cond p (silent 0 (in_mode m 0)) (cond q (signed_on m) (cond r (signed_on (period_closed m)) (silent 0 (in_mode m 0))))) ≡ cond (not p && r) later now-kept
      go true q a r b = refl
      go false true a true b = absurd (let z : ◌≡◌ {A = ℕ} 0 1 = (let d = closes-only (link_of m) (held_text m.receiver) m.registers.facts.serial b in cc) in omega arith)
      go false true a false b = refl
      go false false a true b = refl
      go false false a false b = refl

  confirmed-keeps : (c : ℕ) (d : Bool) → kept_in (confirmed m c d) ≡ now-kept
  unfolding confirmed
  confirmed-keeps c d =
      choice.either (λ (o : Outcome). kept_in o ≡ now-kept) (marked m.receiver || d) refl
      (choice.either (λ (o : Outcome). kept_in o ≡ now-kept) (wants_block (link_of m) (held_text m.receiver) c) refl
      (choice.either (λ (o : Outcome). kept_in o ≡ now-kept) (wants_periods (link_of m) (held_text m.receiver) c) refl
      (choice.either (λ (o : Outcome). kept_in o ≡ now-kept) (wants_program (link_of m) (held_text m.receiver) c) refl refl)))

  tried-keeps : kept_in (tried m) ≡ now-kept
  unfolding tried
  tried-keeps =
      choice.either (λ (o : Outcome). kept_in o ≡ now-kept) (eqb m.attempts 3) refl
      (choice.either (λ (o : Outcome). kept_in o ≡ now-kept) (same_text (password_given m) m.registers.facts.password) refl refl)

  frame-keeps : (mark : Bool) (sum : ℕ) → kept_in (acted m (verdict (tables_in m.registers) (family_of m) m.mode (held_text m.receiver) mark sum)) ≡ now-kept
  unfolding acted
  frame-keeps mark sum =
      verdict-all (λ (v : Verdict). kept_in (acted m v) ≡ now-kept) (tables_in m.registers) (family_of m) m.mode (held_text m.receiver) mark sum
      (record {
        refuse = λ n k. refl;
        leave = refl;
        enter = λ e. refl;
        password = λ k w. tried-keeps;
        read = λ a g. refl;
        write = λ k w.
            record {
              clock = λ c i r. refl;
              account = λ r. refl;
              table = λ t i g r. choice.either (λ (o : Outcome). kept_in o ≡ now-kept) (good_table (tables_in m.registers) t.0) refl refl;
              wrong = refl;
            };
      })

  -- what closes a period ends a line
  closing-line : (c : ℕ) → closes_here m c ≡ true → hearing m.mode m.receiver.count (last_held m.receiver) c ≡ Line
  unfolding closes_here hearing listening
  closing-line c h =
      let zero-mode = eqb m.mode 0 in
      let feed = eqb c 10 in
      let plain = not (marked m.receiver) in
      let said = closes_by (link_of m) (held_text m.receiver) in
      let ends = and_left feed (plain && said) (and_right zero-mode (feed && (plain && said)) h) in
      let line = and_right plain said (and_right feed (plain && said) (and_right zero-mode (feed && (plain && said)) h)) in
      rw (and_left zero-mode (feed && (plain && said)) h, eqb-true c 10 ends) (go (eqb m.receiver.count 0) refl line)
    where
      go : (p : Bool) → eqb m.receiver.count 0 ≡ p → closes_by (link_of m) (held_text m.receiver) ≡ true → cond p Drop Line ≡ Line
      go true e l =
          let n = eqb-true m.receiver.count 0 e in
          let empty : closes_by (link_of m) [] ≡ true = rw n at l in
          absurd (let z : ◌≡◌ {A = ℕ} 0 1 = (let f = nothing-closes (link_of m) in cc) in omega arith)
      go false e l = refl

  -- what ends no line closes nothing
  other : (b : ℕ) (h : Hearing) → hearing m.mode m.receiver.count (last_held m.receiver) (symbol b) ≡ h → (h ≡ Line → ⊥)
      → (a : Archive) → a ≡ now-kept → a ≡ cond (closes_here m (symbol b)) later now-kept
  other b h e no_line a same = go (closes_here m (symbol b)) refl
    where
      go : (p : Bool) → closes_here m (symbol b) ≡ p → a ≡ cond p later now-kept
      go true f = absurd (no_line (sym e ∙ closing-line (symbol b) f))
      go false f = same

  heard-archive : (b : ℕ) (h : Hearing) → hearing m.mode m.receiver.count (last_held m.receiver) (symbol b) ≡ h
      → kept_in (heard m (symbol b) (damaged_at b) h) ≡ cond (closes_here m (symbol b)) later now-kept
  unfolding heard
  heard-archive b Drop e = other b Drop e (λ l. let z : ◌≡◌ {A = ℕ} 0 1 = cc in omega arith) _ refl
  heard-archive b Hold e = other b Hold e (λ l. let z : ◌≡◌ {A = ℕ} 0 1 = cc in omega arith) _ refl
  heard-archive b Restart e = other b Restart e (λ l. let z : ◌≡◌ {A = ℕ} 0 1 = cc in omega arith) _ refl
  heard-archive b Empty e = other b Empty e (λ l. let z : ◌≡◌ {A = ℕ} 0 1 = cc in omega arith) _ refl
  heard-archive b Line e =
      let is = line-is m.mode m.receiver.count (last_held m.receiver) (symbol b) e in
      unfold closes_here in (rw (is.0, is.1) line-keeps)
  heard-archive b Confirm e = other b Confirm e (λ l. let z : ◌≡◌ {A = ℕ} 0 1 = cc in omega arith) _ (confirmed-keeps (symbol b) (damaged_at b))
  heard-archive b Frame e = other b Frame e (λ l. let z : ◌≡◌ {A = ℕ} 0 1 = cc in omega arith) _ (frame-keeps (marked m.receiver || damaged_at b) (symbol b))
  heard-archive b TooLong e = other b TooLong e (λ l. let z : ◌≡◌ {A = ℕ} 0 1 = cc in omega arith) _ refl

  pub character-archive : well_formed m ≡ true → (room b : ℕ) → kept_in (character m room b) ≡ archive_after m room (Character b)
  unfolding character taken archive_after closes_at closing_time
  character-archive h room b = rw (edition-good m h, h) (go (ltb room reply_room) refl)
    where
      go : (p : Bool) → ltb room reply_room ≡ p
          → kept_in (cond p (unheard 12 m) (heard m (symbol b) (damaged_at b) (hearing m.mode m.receiver.count (last_held m.receiver) (symbol b))))
          ≡ cond (leb reply_room room && closes_here m (symbol b)) later now-kept
      go true e = rw (lt-leb reply_room room (ltb-true room reply_room e))
      go false e = rw (le-leb reply_room room (ltb-false room reply_room e)) (heard-archive b (hearing m.mode m.receiver.count (last_held m.receiver) (symbol b)) refl)

  -- ---- the other events

  tick-archive : well_formed m ≡ true → kept_in (tick m) ≡ archive_after m 0 Tick
  unfolding tick archive_after closes_at closing_time month_closed
  tick-archive h = rw (edition-good m h, h) (go (month_starts (next_second m.registers.clock)))
    where
      go : (p : Bool) → (cond p (closing (with_clock m.registers (next_second m.registers.clock))) (with_clock m.registers (next_second m.registers.clock))).archive
          ≡ cond p (closed_with (period_of (next_second m.registers.clock) m.registers.counters m.registers.exported) m.registers.archive) m.registers.archive
      go true = refl
      go false = refl

  silence-archive : well_formed m ≡ true → (room : ℕ) → kept_in (silence m room) ≡ now-kept
  unfolding silence after_silence
  silence-archive h room =
      rw (edition-good m h, h) (choice.either (λ (o : Outcome). kept_in o ≡ now-kept) (ltb room reply_room) refl
      (choice.either (λ (o : Outcome). kept_in o ≡ now-kept) (eqb m.mode 0) refl
      (choice.either (λ (o : Outcome). kept_in o ≡ now-kept) (eqb m.mode 1) refl refl)))

  pulse-archive : well_formed m ≡ true → (out : Bool) (units : ℕ) → kept_in (pulse m out units) ≡ now-kept
  unfolding pulse
  pulse-archive h out units =
      rw (edition-good m h, h) (choice.either (λ (o : Outcome). kept_in o ≡ now-kept) (pulse_refused (family_of m) out units) refl
      (choice.either (λ (g : Registers). g.archive ≡ now-kept) out refl refl))

  -- over all events: exactly when the archive changes, and to what
  pub archive-changes : well_formed m ≡ true → (room : ℕ) (e : Event) → kept_in (met m room e) ≡ archive_after m room e
  unfolding met archive_after closes_at power_up
  archive-changes h room (Character b) = character-archive h room b
  archive-changes h room Silence = silence-archive h room
  archive-changes h room Tick = tick-archive h
  archive-changes h room (Pulse units) = pulse-archive h false units
  archive-changes h room PowerUp = rw (edition-good m h, h)
  archive-changes h room (PulseOut units) = pulse-archive h true units
  archive-changes h room Unknown = rw (edition-good m h)
