-- [2]: no answer's number, speed or reply depends on the place, nor does the next state but for its own; and only a 3 has one.
-- Whatever a well-formed meter does, it does with any other place that its state may have. Assumes nothing.
use mathlib.Core.Path.{◌≡◌, refl, sym, ap, ◌∙◌}
use mathlib.Core.Bool.{Bool, true, false, cond, not, ◌&&◌, ◌||◌}
use mathlib.Core.List.{List, [], ◌∷◌}
use Prim.Native.Nat.{ℕ, ◌<◌}
use native.Mathlib.Omega.{arith}
use borrow.Author.Tests.{eqb-true, eqb-false, lt-ltb}
use lib.Dec.{eqb, leb, ltb}
use lib.ListN.{get_or}
use Rattle.line.specs.Characters.{damaged_at}
use Rattle.line.proofs.Runs.{and_left, and_right, and_both}
use Rattle.state.specs.Sizes.{reply_room}
use Rattle.values.specs.Edition.{is_edition}
use Rattle.state.specs.declared.Meter.{Meter}
use Rattle.state.specs.Link.{link_of}
use Rattle.state.specs.WellFormed.{family_of, limit, first_good, mark_good, hurt_good, held_good, receiver_good, speed_good, registers_good, well_formed, marked, tables_in, edition_of}
use Rattle.state.proofs.Parts.{formed, well-formed, formed-receiver, receiver-good, edition-good}
use Rattle.receiving.specs.declared.Hearing.{Hearing}
use Rattle.receiving.specs.declared.Hearing.TheVariants.{Drop, Hold, Restart, Empty, Line, Confirm, Frame, TooLong}
use Rattle.receiving.specs.Hearing.{hearing}
use Rattle.receiving.specs.Receivers.{held_text, last_held, hurt_place}
use Rattle.deciding.specs.Verdicts.{Verdict, Refuse, Leave, Enter, Password, Read, WriteClock, WriteAccount, WriteTable}
use Rattle.deciding.specs.Verdict.{verdict}
use Rattle.meter.specs.Outcomes.{Outcome, unheard}
use Rattle.meter.specs.Acting.{tried, acted}
use Rattle.meter.specs.SignOn.{signs_on_by, closes_by, wants_block, wants_periods, wants_program}
use Rattle.meter.specs.Character.{symbol, line_ended, confirmed, heard, taken, character}
use Rattle.meter.specs.Events.{after_silence, pulse_refused, silence, tick, pulse, power_up}
use Rattle.meter.specs.declared.Event.{Event}
use Rattle.meter.specs.declared.Event.TheVariants.{Character, Silence, Tick, Pulse, PowerUp, PulseOut, Unknown}
use Rattle.meter.specs.Life.{met, lived}
use Rattle.meter.proofs.Places.{either-nowhere}
use Rattle.promises.specs.Ignoring.{Unplaced, unplaced_formed, unplaced, placed, UnplacedOutcome, unplaced_outcome, ignoring, lived_ignoring, Unchanged, RefusesPlaces}
use Rattle.promises.proofs.Life.{met-stays}

-- the two conditions stand behind the others
aside : (a l f k p h g : Bool) → ((a && cond l (((f && k) && p) && h) false) && g) ≡ (((a && cond l ((f && k) && h) false) && g) && p)
aside false l f k p h g = refl
aside true false f k p h g = refl
aside true true false k p h g = refl
aside true true true false p h g = refl
aside true true true true true true true = refl
aside true true true true true true false = refl
aside true true true true true false g = refl
aside true true true true false true true = refl
aside true true true true false true false = refl
aside true true true true false false g = refl

exactly : (m : Meter) → well_formed m ≡ (unplaced_formed (unplaced m) && hurt_good m.receiver.count m.receiver.mark m.receiver.place)
unfolding well_formed receiver_good unplaced_formed
exactly m =
    let r = m.receiver in
    aside ((leb m.mode 4 && leb m.attempts 3) && speed_good (link_of m) m.mode m.speed) (leb r.count (limit m.mode))
    (first_good m.mode r.count (get_or r.held 0 0)) (mark_good r.count r.mark) (hurt_good r.count r.mark r.place) (held_good r.held r.count) (registers_good m.registers)

pub refuses-places : RefusesPlaces
refuses-places = record { exactly = exactly }

-- place 0 is one that any well-formed state may have
first_good_lem : (count mark : ℕ) → mark_good count mark ≡ true → hurt_good count mark 0 ≡ true
unfolding mark_good hurt_good
first_good_lem count mark h = go (eqb mark 1) refl
  where
    some : eqb mark 1 ≡ true → (eqb count 0 ≡ true → ⊥)
    some e z =
        let none = and_right (leb mark 1) (not (eqb count 0) || eqb mark 0) h in
        let zero : mark ≡ 0 = eqb-true mark 0 (rw z at none) in
        omega (arith, eqb-true mark 1 e, zero)

    held : (b : Bool) → eqb count 0 ≡ b → (b ≡ true → ⊥) → ltb 0 count ≡ true
    held true e f = absurd (f refl)
    held false e f = lt-ltb 0 count (omega (arith, eqb-false count 0 e))

    go : (b : Bool) → eqb mark 1 ≡ b → cond b (ltb 0 count) (eqb 0 0) ≡ true
    go true e = held (eqb count 0) refl (some e)
    go false e = refl

placed-formed : (m : Meter) → well_formed m ≡ true → well_formed (placed (unplaced m) 0) ≡ true
placed-formed m h =
    let f = formed m h in
    let r = formed-receiver m.mode m.receiver f.receiver in
    well-formed (placed (unplaced m) 0)
    (record {
      mode = f.mode;
      attempts = f.attempts;
      speed = f.speed;
      receiver = receiver-good m.mode (placed (unplaced m) 0).receiver
          (record { count = r.count; first = r.first; mark = r.mark; hurt = first_good_lem m.receiver.count m.receiver.mark r.mark; held = r.held });
      registers = f.registers;
    })

module _ (m : Meter) (p : ℕ) where
  -- the same meter with another place
  abbrev other : Meter
  other = placed (unplaced m) p

  acted-same : (v : Verdict) → acted m v ≡ acted other v
  unfolding acted tried
  acted-same (Refuse n) = refl
  acted-same Leave = refl
  acted-same Enter = refl
  acted-same Password = refl
  acted-same (Read a) = refl
  acted-same (WriteClock c) = refl
  acted-same WriteAccount = refl
  acted-same (WriteTable t) = refl

  heard-same : (c : ℕ) (d : Bool) (h : Hearing) → unplaced_outcome (heard m c d h) ≡ unplaced_outcome (heard other c d h)
  unfolding heard line_ended confirmed
  heard-same c d Drop = refl
  heard-same c d Hold = refl
  heard-same c d Restart = refl
  heard-same c d Empty = refl
  heard-same c d Line = refl
  heard-same c d Confirm = refl
  heard-same c d Frame = ap unplaced_outcome (acted-same (verdict (tables_in m.registers) (family_of m) m.mode (held_text m.receiver) (marked m.receiver || d) c))
  heard-same c d TooLong = refl

  either_same : (b : Bool) (x y x' y' : Outcome) → unplaced_outcome x ≡ unplaced_outcome x' → unplaced_outcome y ≡ unplaced_outcome y'
      → unplaced_outcome (cond b x y) ≡ unplaced_outcome (cond b x' y')
  either_same true x y x' y' e f = e
  either_same false x y x' y' e f = f

  met-same : well_formed m ≡ true → well_formed other ≡ true → (room : ℕ) (e : Event) → unplaced_outcome (met m room e) ≡ unplaced_outcome (met other room e)
  unfolding met character taken silence after_silence tick pulse power_up
  met-same h k room (Character b) =
      rw (edition-good m h, h, k) (either_same (ltb room reply_room) _ _ _ _ refl
      (heard-same (symbol b) (damaged_at b) (hearing m.mode m.receiver.count (last_held m.receiver) (symbol b))))
  met-same h k room Silence =
      rw (edition-good m h, h, k) (either_same (ltb room reply_room) _ _ _ _ refl refl)
  met-same h k room Tick = rw (edition-good m h, h, k)
  met-same h k room (Pulse units) = rw (edition-good m h, h, k) (either_same (pulse_refused (family_of m) false units) _ _ _ _ refl refl)
  met-same h k room PowerUp = rw (edition-good m h, h, k)
  met-same h k room (PulseOut units) = rw (edition-good m h, h, k) (either_same (pulse_refused (family_of m) true units) _ _ _ _ refl refl)
  met-same h k room Unknown = rw (edition-good m h)

same : (m : Meter) → well_formed m ≡ true → (room : ℕ) (e : Event) → unplaced_outcome (met m room e) ≡ ignoring (unplaced m) room e
unfolding ignoring
same m h room e = met-same m 0 h (placed-formed m h) room e

lives : (m : Meter) → well_formed m ≡ true → (es : List (ℕ × Event)) → unplaced (lived m es) ≡ lived_ignoring (unplaced m) es
unfolding lived lived_ignoring
lives m h [] = refl
lives m h ((room, e) ∷ es) =
    lives (met m room e).next (met-stays m room e h) es ∙ ap (λ (o : UnplacedOutcome). lived_ignoring o.next es) (same m h room e)

pub hurt-unchanged-replies : (m : Meter) → well_formed m ≡ true → Unchanged m
hurt-unchanged-replies m h = record { same = same m h; lives = lives m h }

-- ---- 3 alone has a place

module _ (m : Meter) where
  heard-nowhere : (c : ℕ) (d : Bool) (h : Hearing) → ((heard m c d h).number ≡ 3 → ⊥) → (heard m c d h).place ≡ 0
  unfolding heard line_ended confirmed acted verdict
  heard-nowhere c d Drop n = refl
  heard-nowhere c d Hold n = refl
  heard-nowhere c d Restart n = refl
  heard-nowhere c d Empty n = refl
  heard-nowhere c d Line n =
      either-nowhere (marked m.receiver) _ _ refl (either-nowhere (signs_on_by (link_of m) (held_text m.receiver) m.registers.facts.serial) _ _ refl (either-nowhere (closes_by (link_of m) (held_text m.receiver)) _ _ refl refl))
  heard-nowhere c d Confirm n =
      either-nowhere (marked m.receiver || d) _ _ refl
      (either-nowhere (wants_block (link_of m) (held_text m.receiver) c) _ _ refl
      (either-nowhere (wants_periods (link_of m) (held_text m.receiver) c) _ _ refl (either-nowhere (wants_program (link_of m) (held_text m.receiver) c) _ _ refl refl)))
  heard-nowhere c d Frame n = go (marked m.receiver) d n
    where
      go : (k d : Bool) → ((acted m (verdict (tables_in m.registers) (family_of m) m.mode (held_text m.receiver) (k || d) c)).number ≡ 3 → ⊥)
          → cond k m.receiver.place (cond d m.receiver.count 0) ≡ 0
      go true d n = absurd (n refl)
      go false true n = absurd (n refl)
      go false false n = refl
  heard-nowhere c d TooLong n = refl

  passes-nowhere : (b : Bool) (x y : Outcome) → x.place ≡ 0 → ((y.number ≡ 3 → ⊥) → y.place ≡ 0) → ((cond b x y).number ≡ 3 → ⊥) → (cond b x y).place ≡ 0
  passes-nowhere true x y e f n = e
  passes-nowhere false x y e f n = f n

  met-nowhere : (b : Bool) (x y : Outcome) → ((x.number ≡ 3 → ⊥) → x.place ≡ 0) → y.place ≡ 0 → ((cond b x y).number ≡ 3 → ⊥) → (cond b x y).place ≡ 0
  met-nowhere true x y e f n = e n
  met-nowhere false x y e f n = f

  pub only-three : (room : ℕ) (e : Event) → ((met m room e).number ≡ 3 → ⊥) → (met m room e).place ≡ 0
  unfolding met character taken silence after_silence tick pulse power_up
  only-three room (Character b) n =
      met-nowhere (is_edition (edition_of m)) _ _
      (passes-nowhere (ltb room reply_room) _ _ refl
      (met-nowhere (well_formed m) _ _ (heard-nowhere (symbol b) (damaged_at b) (hearing m.mode m.receiver.count (last_held m.receiver) (symbol b))) refl))
      refl n
  only-three room Silence n =
      either-nowhere (is_edition (edition_of m)) _ _
      (either-nowhere (ltb room reply_room) _ _ refl
      (either-nowhere (well_formed m) _ _ (either-nowhere (eqb m.mode 0) _ _ refl (either-nowhere (eqb m.mode 1) _ _ refl refl)) refl))
      refl
  only-three room Tick n = either-nowhere (is_edition (edition_of m)) _ _ (either-nowhere (well_formed m) _ _ refl refl) refl
  only-three room (Pulse units) n =
      either-nowhere (is_edition (edition_of m)) _ _ (either-nowhere (pulse_refused (family_of m) false units) _ _ refl (either-nowhere (well_formed m) _ _ refl refl)) refl
  only-three room PowerUp n = either-nowhere (is_edition (edition_of m)) _ _ (either-nowhere (well_formed m) _ _ refl refl) refl
  only-three room (PulseOut units) n =
      either-nowhere (is_edition (edition_of m)) _ _ (either-nowhere (pulse_refused (family_of m) true units) _ _ refl (either-nowhere (well_formed m) _ _ refl refl)) refl
  only-three room Unknown n = either-nowhere (is_edition (edition_of m)) _ _ refl refl
