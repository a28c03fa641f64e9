-- A meter follows its history: one event, then all. Assumes nothing.
use mathlib.Core.Path.{◌≡◌, refl, ap, ◌∙◌}
use mathlib.Core.Bool.{Bool, true, false, cond, ◌&&◌}
use mathlib.Core.List.{List, [], ◌∷◌}
use Prim.Native.Nat.{ℕ, ◌≤◌}
use native.Mathlib.Omega.{arith}
use borrow.Author.Tests.{le-leb, lt-ltb, le-ltb, leb-true, leb-false, eqb-true, eqb-false}
use lib.Dec.{eqb, leb}
use Rattle.values.specs.Family.{is_eqm}
use Rattle.values.specs.Registers.{good_serial}
use Rattle.clock.specs.declared.Clock.{Clock}
use Rattle.state.specs.Sizes.{reply_room}
use Rattle.state.specs.declared.Facts.{Facts}
use Rattle.state.specs.declared.Registers.{Registers}
use Rattle.state.specs.declared.Meter.{Meter}
use Rattle.state.specs.WellFormed.{family_of, factory_good, well_formed}
use Rattle.state.specs.Making.{meter_of}
use Rattle.state.specs.Setting.{in_mode}
use Rattle.state.proofs.Parts.{formed, formed-registers, formed-facts, edition-good}
use Rattle.tariff.specs.Zones.{zone_in}
use Rattle.meter.specs.Outcomes.{silent, saying}
use Rattle.meter.specs.Character.{taken, character}
use Rattle.meter.specs.Events.{after_silence, pulse_refused, silence, tick, pulse, power_up}
use Rattle.meter.specs.declared.Event.{Event}
use Rattle.meter.specs.declared.Event.TheVariants.{Character, Silence, Tick, Pulse, PowerUp, PulseOut, Unknown}
use Rattle.meter.specs.Life.{met, lived}
use Rattle.state.specs.Link.{link_of, rest_speed}
use Rattle.meter.specs.Link.{refused_reply}
use Rattle.promises.proofs.Life.{met-stays}
use Rattle.promises.proofs.Beginning.{new-well-formed}
use Rattle.history.specs.Past.{happens, past_of}
use Rattle.history.specs.Standing.{Standing, standing_as, anew, standing}
use Rattle.history.specs.Standing as told
use Rattle.history.specs.Deeds.{by_byte, deeds_at, deeds, writes_of}
use Rattle.history.specs.Told.{account_told, tables_told, clock_told, counters_told, exported_told, archive_told, registers_told}
use Rattle.told.specs.Doing.{done, done_all}
use Rattle.told.specs.Claims.{Told}
use Rattle.told.proofs.Holding.{holding, Follows, fresh}
use Rattle.told.proofs.Listening.{listening-step}
use Rattle.told.proofs.Confirming.{confirming-step}
use Rattle.told.proofs.Framing.{session-step}
use Rattle.told.proofs.Registers.{all_done}

-- ---- a byte, in any mode

in-mode : (mode failed speed : ℕ) (said : List ℕ) (g : Registers) (b : ℕ) → mode ≤ 4 → good_serial g.facts.serial ≡ true
    → Follows (told.after_byte g.facts (standing_as mode failed said) b) (done_all (by_byte g.facts (standing_as mode failed said) b) g) (taken (holding (standing_as mode failed said) speed g) b).next
in-mode mode failed speed said g b few good = go (eqb mode 0) refl (eqb mode 1) refl
  where
    Goal : ℕ → Type 0
    Goal n = Follows (told.after_byte g.facts (standing_as n failed said) b) (done_all (by_byte g.facts (standing_as n failed said) b) g) (taken (holding (standing_as n failed said) speed g) b).next

    listens : (n : ℕ) → n ≡ 0 → Goal n
    listens n e = rw e (listening-step failed speed said g b good)

    confirms : (n : ℕ) → n ≡ 1 → Goal n
    confirms n e = rw e (unfold done_all in (confirming-step failed speed said g b))

    go : (p : Bool) → eqb mode 0 ≡ p → (q : Bool) → eqb mode 1 ≡ q → Goal mode
    go true e q f = listens mode (eqb-true mode 0 e)
    go false e true f = confirms mode (eqb-true mode 1 f)
    go false e false f =
        let session : (leb 2 mode && leb mode 4) ≡ true = rw (le-leb 2 mode (omega (arith, eqb-false mode 0 e, eqb-false mode 1 f)), le-leb mode 4 few) in
        rw (e, f) (rw e at (session-step mode failed speed said g b e f session))

byte-follows : (s : Standing) (g : Registers) (m : Meter) (b : ℕ) → well_formed m ≡ true → Follows s g m → Follows (told.after_byte g.facts s b) (done_all (by_byte g.facts s b) g) (taken m b).next
byte-follows s g m b good f =
    let here : well_formed (holding s f.speed g) ≡ true = rw f.is at good in
    let w = formed (holding s f.speed g) here in
    let facts = formed-facts g.facts (formed-registers g w.registers).facts in
    rw f.is (in-mode s.mode s.failed f.speed s.said g b w.mode facts.serial)

-- ---- an event

module _ (factory : Registers) where
  abbrev facts : Facts
  facts = factory.facts

  abbrev Held : List Event → Meter → Type 0
  Held past m = Follows (standing facts past) (registers_told factory (deeds facts past)) m

  -- a deed more: what it does
  deed-follows : (s : Standing) (e : Event) (past : List Event) (m : Meter)
      → Follows s (done_all (deeds_at facts (standing facts past) e) (registers_told factory (deeds facts past))) m → Follows s (registers_told factory (deeds facts (e ∷ past))) m
  unfolding deeds
  deed-follows s e past m h = rw (all_done factory (deeds_at facts (standing facts past) e) (deeds facts past)) h

  module _ (past : List Event) (m : Meter) (good : well_formed m ≡ true) (f : Held past m) where
    abbrev s : Standing
    s = standing facts past

    abbrev g : Registers
    g = registers_told factory (deeds facts past)

    -- it happens, or it is as if it had not been
    abbrev then : ℕ → Event → List Event
    then room e = cond (happens facts.decimals room e) (e ∷ past) past

    by-byte : (room b : ℕ) → Held (then room (Character b)) (met m room (Character b)).next
    unfolding happens met character
    by-byte room b = go (leb reply_room room) refl
      where
        go : (p : Bool) → leb reply_room room ≡ p → Held (cond p (Character b ∷ past) past) (met m room (Character b)).next
        go true e = rw (edition-good m good, le-ltb room reply_room (leb-true reply_room room e), good)
            (deed-follows _ (Character b) past _ (unfold standing deeds_at in (byte-follows s g m b good f)))
        go false e = rw (edition-good m good, lt-ltb room reply_room (leb-false reply_room room e)) f

    by-silence : (room : ℕ) → Held (then room Silence) (met m room Silence).next
    unfolding happens met silence standing deeds deeds_at
    by-silence room = go (leb reply_room room) refl
      where
        ended : Follows (anew s 0) g (in_mode m 0)
        ended = record { speed = rest_speed facts.link; is = rw (f.is, fresh 0) }

        after : Follows (anew s 0) g (after_silence m).next
        after = unfold after_silence in (three (eqb m.mode 0) (eqb m.mode 1))
          where
            three : (p q : Bool) → Follows (anew s 0) g (cond p (silent 0 (in_mode m 0)) (cond q (saying 1 (rest_speed (link_of m)) (refused_reply (link_of m)) (in_mode m 0)) (silent 1 (in_mode m 0)))).next
            three true q = ended
            three false true = ended
            three false false = ended

        go : (p : Bool) → leb reply_room room ≡ p → Held (cond p (Silence ∷ past) past) (met m room Silence).next
        go true e = rw (edition-good m good, le-ltb room reply_room (leb-true reply_room room e), good) after
        go false e = rw (edition-good m good, lt-ltb room reply_room (leb-false reply_room room e)) f

    by-tick : (room : ℕ) → Held (then room Tick) (met m room Tick).next
    unfolding happens met tick standing
    by-tick room = rw (edition-good m good, good, f.is) (deed-follows s Tick past _ (unfold deeds_at done_all done in (record { speed = f.speed; is = refl })))

    -- the meter is of the factory's family
    of-family : family_of m ≡ facts.decimals
    of-family = ap family_of f.is

    by-pulse : (room units : ℕ) → Held (then room (Pulse units)) (met m room (Pulse units)).next
    unfolding happens met pulse pulse_refused standing zone_in
    by-pulse room units = go (leb units 1000000) refl
      where
        go : (p : Bool) → leb units 1000000 ≡ p → Held (cond p (Pulse units ∷ past) past) (met m room (Pulse units)).next
        go true e =
            rw (edition-good m good, le-ltb 1000000 units (leb-true units 1000000 e), good, f.is)
            (deed-follows s (Pulse units) past _ (unfold deeds_at done_all done in (record { speed = f.speed; is = refl })))
        go false e = rw (edition-good m good, lt-ltb 1000000 units (leb-false units 1000000 e)) f

    by-pulse-out : (room units : ℕ) → Held (then room (PulseOut units)) (met m room (PulseOut units)).next
    unfolding happens met pulse pulse_refused standing zone_in
    by-pulse-out room units = go (is_eqm facts.decimals) refl (leb units 1000000) refl
      where
        go : (q : Bool) → is_eqm facts.decimals ≡ q → (p : Bool) → leb units 1000000 ≡ p → Held (cond (q && p) (PulseOut units ∷ past) past) (met m room (PulseOut units)).next
        go true k true e =
            rw (edition-good m good, ap is_eqm of-family ∙ k, le-ltb 1000000 units (leb-true units 1000000 e), good, f.is)
            (deed-follows s (PulseOut units) past _ (unfold deeds_at done_all done in (record { speed = f.speed; is = refl })))
        go true k false e = rw (edition-good m good, ap is_eqm of-family ∙ k, lt-ltb 1000000 units (leb-false units 1000000 e)) f
        go false k p e = rw (edition-good m good, ap is_eqm of-family ∙ k) f

    by-power : (room : ℕ) → Held (then room PowerUp) (met m room PowerUp).next
    unfolding happens met power_up standing deeds deeds_at
    by-power room = rw (edition-good m good, good, f.is) (record { speed = rest_speed facts.link; is = rw (fresh 0) })

    met-follows : (room : ℕ) (e : Event) → Held (then room e) (met m room e).next
    met-follows room (Character b) = by-byte room b
    met-follows room Silence = by-silence room
    met-follows room Tick = by-tick room
    met-follows room (Pulse units) = by-pulse room units
    met-follows room PowerUp = by-power room
    met-follows room (PulseOut units) = by-pulse-out room units
    met-follows room Unknown = unfold happens met in (rw (edition-good m good) f)

  -- ---- all of them

  lived-follows : (past : List Event) (m : Meter) (es : List (ℕ × Event)) → well_formed m ≡ true → Held past m → Held (past_of facts.decimals past es) (lived m es)
  unfolding past_of lived
  lived-follows past m [] good f = f
  lived-follows past m ((room, e) ∷ es) good f =
      lived-follows (cond (happens facts.decimals room e) (e ∷ past) past) (met m room e).next es (met-stays m room e good) (met-follows past m good f room e)

module _ (facts : Facts) (account : List ℕ) (clock : Clock) (good : factory_good facts account clock ≡ true) (es : List (ℕ × Event)) where
  abbrev made : Meter
  made = meter_of facts account clock

  starts : Held made.registers [] made
  unfolding standing deeds account_told tables_told clock_told counters_told exported_told archive_told writes_of
  starts = record { speed = rest_speed facts.link; is = rw (fresh 0) }

  follows : Held made.registers (past_of facts.decimals [] es) (lived made es)
  follows = lived-follows made.registers [] made es (new-well-formed facts account clock good) starts

  -- a meter from the factory holds nothing but what it was told
  pub nothing-but-told : Told facts account clock es
  nothing-but-told =
      let e = follows.is in
      record {
        account-told = ap (λ (m : Meter). m.registers.account) e;
        tables-told = ap (λ (m : Meter). m.registers.tables) e;
        clock-told = ap (λ (m : Meter). m.registers.clock) e;
        counters-told = ap (λ (m : Meter). m.registers.counters) e;
        exported-told = ap (λ (m : Meter). m.registers.exported) e;
        archive-told = ap (λ (m : Meter). m.registers.archive) e;
        facts-kept = ap (λ (m : Meter). m.registers.facts) e;
        mode-told = ap (λ (m : Meter). m.mode) e;
        attempts-told = ap (λ (m : Meter). m.attempts) e;
      }
