-- Which calls are not heard. An edition that there is not gives 16, then a short buffer 12, a pulse over 1,000,000 or one out that nothing counts 13, then a malformed state 14:
-- the state stays as it was, nothing is replied, the speed given is 0. A well-formed state never gives 14. Assumes nothing.
use mathlib.Core.Path.{◌≡◌, refl}
use mathlib.Core.Bool.{Bool, true, false, cond, ◌||◌}
use mathlib.Core.List.{List}
use Prim.Native.Nat.{ℕ}
use native.Mathlib.Omega.{arith}
use lib.Dec.{eqb, ltb}
use Rattle.line.specs.Characters.{damaged_at}
use Rattle.text.specs.Writing.{holding}
use Rattle.frames.specs.Frames.{on_wire}
use Rattle.values.specs.Edition.{is_edition}
use Rattle.state.specs.Sizes.{reply_room}
use Rattle.state.specs.declared.Meter.{Meter}
use Rattle.state.specs.Link.{link_of}
use Rattle.state.specs.WellFormed.{family_of, tables_in, edition_of, well_formed, marked}
use Rattle.state.proofs.Parts.{edition-good}
use Rattle.receiving.specs.declared.Hearing.{Hearing}
use Rattle.receiving.specs.declared.Hearing.TheVariants.{Drop, Hold, Restart, Empty, Line, Confirm, Frame, TooLong}
use Rattle.receiving.specs.Hearing.{hearing}
use Rattle.receiving.specs.Receivers.{held_text, last_held}
use Rattle.deciding.specs.Verdict.{verdict}
use Rattle.meter.specs.Outcomes.{Outcome, unheard}
use Rattle.meter.specs.SignOn.{signs_on_by, closes_by, wants_block, wants_periods, wants_program}
use Rattle.meter.specs.Acting.{acted}
use Rattle.meter.specs.Character.{symbol, line_ended, confirmed, heard, taken, character}
use Rattle.meter.specs.declared.Event.{Event}
use Rattle.meter.specs.declared.Event.TheVariants.{Character, Silence, Tick, Pulse, PowerUp, PulseOut, Unknown}
use Rattle.meter.specs.Life.{met}
use Rattle.meter.specs.Events.{after_silence, pulse_refused, silence, tick, pulse, power_up}
use Rattle.promises.proofs.Choices as choice
use Rattle.promises.proofs.Verdicts.{FrameNumber, parity, checksum, shape, unknown, not-allowed, content-wrong}
use Rattle.promises.proofs.Answering.{answered-all}

-- what is not heard leaves the buffer as it was
pub unheard-buffer : (n : ℕ) (m : Meter) (buf : List ℕ) → holding buf (on_wire (unheard n m).reply) ≡ buf
unfolding holding
unheard-buffer n m buf = refl

-- ---- [3]: no call is heard by a meter of an edition that there is not

pub no-edition : (m : Meter) (room : ℕ) (e : Event) → is_edition (edition_of m) ≡ false → met m room e ≡ unheard 16 m
unfolding met character silence tick pulse power_up
no-edition m room (Character b) h = rw h
no-edition m room Silence h = rw h
no-edition m room Tick h = rw h
no-edition m room (Pulse units) h = rw h
no-edition m room PowerUp h = rw h
no-edition m room (PulseOut units) h = rw h
no-edition m room Unknown h = rw h

-- ---- a call with a short buffer or a pulse that the family refuses is not heard, in any state of an edition

pub short-character : (m : Meter) (room b : ℕ) → is_edition (edition_of m) ≡ true → ltb room reply_room ≡ true → character m room b ≡ unheard 12 m
unfolding character
short-character m room b k h = rw (k, h)

pub short-silence : (m : Meter) (room : ℕ) → is_edition (edition_of m) ≡ true → ltb room reply_room ≡ true → silence m room ≡ unheard 12 m
unfolding silence
short-silence m room k h = rw (k, h)

pub refused-pulse : (m : Meter) (out : Bool) (units : ℕ) → is_edition (edition_of m) ≡ true → pulse_refused (family_of m) out units ≡ true → pulse m out units ≡ unheard 13 m
unfolding pulse
refused-pulse m out units k h = rw (k, h)

-- ---- nor is any call with a malformed state

unheard-either : (first : Bool) (n : ℕ) (m : Meter) → cond first (unheard n m) (unheard 14 m) ≡ unheard (cond first n 14) m
unheard-either true n m = refl
unheard-either false n m = refl

pub malformed-character : (m : Meter) (room b : ℕ) → is_edition (edition_of m) ≡ true → well_formed m ≡ false → character m room b ≡ unheard (cond (ltb room reply_room) 12 14) m
unfolding character
malformed-character m room b k h = rw (k, h) (unheard-either (ltb room reply_room) 12 m)

pub malformed-silence : (m : Meter) (room : ℕ) → is_edition (edition_of m) ≡ true → well_formed m ≡ false → silence m room ≡ unheard (cond (ltb room reply_room) 12 14) m
unfolding silence
malformed-silence m room k h = rw (k, h) (unheard-either (ltb room reply_room) 12 m)

pub malformed-tick : (m : Meter) → is_edition (edition_of m) ≡ true → well_formed m ≡ false → tick m ≡ unheard 14 m
unfolding tick
malformed-tick m k h = rw (k, h)

pub malformed-pulse : (m : Meter) (out : Bool) (units : ℕ) → is_edition (edition_of m) ≡ true → well_formed m ≡ false
    → pulse m out units ≡ unheard (cond (pulse_refused (family_of m) out units) 13 14) m
unfolding pulse
malformed-pulse m out units k h = rw (k, h) (unheard-either (pulse_refused (family_of m) out units) 13 m)

pub malformed-power-up : (m : Meter) → is_edition (edition_of m) ≡ true → well_formed m ≡ false → power_up m ≡ unheard 14 m
unfolding power_up
malformed-power-up m k h = rw (k, h)

-- ---- a well-formed state never gives 14

Never : Outcome → Type 0
Never o = o.number ≡ 14 → ⊥

frame-number : (mark : Bool) (n : ℕ) → FrameNumber mark n → n ≡ 14 → ⊥
frame-number mark n (parity m) e = omega arith
frame-number mark n checksum e = omega arith
frame-number mark n shape e = omega arith
frame-number mark n unknown e = omega arith
frame-number mark n not-allowed e = omega arith
frame-number mark n content-wrong e = omega arith

frame-never : (m : Meter) (mark : Bool) (sum : ℕ) → Never (acted m (verdict (tables_in m.registers) (family_of m) m.mode (held_text m.receiver) mark sum))
unfolding Never
frame-never m mark sum = answered-all (λ (n : ℕ). n ≡ 14 → ⊥) m mark sum (frame-number mark) (λ e. omega arith) (λ e. omega arith) (λ e. omega arith)

heard-never : (m : Meter) (c : ℕ) (d : Bool) (h : Hearing) → Never (heard m c d h)
unfolding heard Never line_ended confirmed
heard-never m c d Drop = λ e. omega arith
heard-never m c d Hold = λ e. omega arith
heard-never m c d Restart = λ e. omega arith
heard-never m c d Empty = λ e. omega arith
heard-never m c d Line =
    choice.either Never (marked m.receiver) (λ e. omega arith)
    (choice.either Never (signs_on_by (link_of m) (held_text m.receiver) m.registers.facts.serial) (λ e. omega arith)
    (choice.either Never (closes_by (link_of m) (held_text m.receiver)) (λ e. omega arith) (λ e. omega arith)))
heard-never m c d Confirm =
    choice.either Never (marked m.receiver || d) (λ e. omega arith)
    (choice.either Never (wants_block (link_of m) (held_text m.receiver) c) (λ e. omega arith)
    (choice.either Never (wants_periods (link_of m) (held_text m.receiver) c) (λ e. omega arith)
    (choice.either Never (wants_program (link_of m) (held_text m.receiver) c) (λ e. omega arith) (λ e. omega arith))))
heard-never m c d Frame = frame-never m (marked m.receiver || d) c
heard-never m c d TooLong = λ e. omega arith

pub character-never-14 : (m : Meter) (room b : ℕ) → well_formed m ≡ true → (character m room b).number ≡ 14 → ⊥
unfolding character taken Never
character-never-14 m room b h =
    rw (edition-good m h, h) (choice.either Never (ltb room reply_room) (λ e. omega arith)
    (heard-never m (symbol b) (damaged_at b) (hearing m.mode m.receiver.count (last_held m.receiver) (symbol b))))

pub silence-never-14 : (m : Meter) (room : ℕ) → well_formed m ≡ true → (silence m room).number ≡ 14 → ⊥
unfolding silence after_silence Never
silence-never-14 m room h =
    rw (edition-good m h, h) (choice.either Never (ltb room reply_room) (λ e. omega arith)
    (choice.either Never (eqb m.mode 0) (λ e. omega arith) (choice.either Never (eqb m.mode 1) (λ e. omega arith) (λ e. omega arith))))

pub tick-never-14 : (m : Meter) → well_formed m ≡ true → (tick m).number ≡ 14 → ⊥
unfolding tick
tick-never-14 m h = rw (edition-good m h, h) (λ e. omega arith)

pub pulse-never-14 : (m : Meter) (out : Bool) (units : ℕ) → well_formed m ≡ true → (pulse m out units).number ≡ 14 → ⊥
unfolding pulse Never
pulse-never-14 m out units h = rw (edition-good m h, h) (choice.either Never (pulse_refused (family_of m) out units) (λ e. omega arith) (λ e. omega arith))

pub power-up-never-14 : (m : Meter) → well_formed m ≡ true → (power_up m).number ≡ 14 → ⊥
unfolding power_up
power-up-never-14 m h = rw (edition-good m h, h) (λ e. omega arith)
