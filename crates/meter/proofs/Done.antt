-- Each rule is the deed of its words: what comes of an event that a meter acts on is what comes of its deed. Assumes nothing.
use mathlib.Core.Path.{◌≡◌, refl, ap, subst, ◌∙◌}
use mathlib.Core.Bool.{Bool, true, false, cond, ◌||◌}
use mathlib.Core.List.{List}
use Prim.Native.Nat.{ℕ, ◌+◌, ◌≤◌}
use native.Mathlib.Omega.{arith}
use lib.Dec.{eqb}
use lib.ListN.{take, drop}
use Rattle.line.specs.Characters.{damaged_at}
use Rattle.text.specs.Classes.{same_text}
use Rattle.values.specs.Edition.{tables_of}
use Rattle.values.specs.Registers.{good_table}
use Rattle.frames.specs.Frames.{block_of}
use Rattle.clock.specs.declared.Clock.{Clock}
use Rattle.state.specs.Sizes.{reply_room}
use Rattle.state.specs.declared.Meter.{Meter}
use Rattle.state.specs.declared.Registers.{Registers}
use Rattle.state.specs.WellFormed.{tables_in, family_of, marked}
use Rattle.state.specs.Link.{link_of}
use Rattle.state.specs.Setting.{in_mode, with_attempts, with_registers, with_clock}
use Rattle.state.specs.Closing.{closing}
use Rattle.receiving.specs.declared.Hearing.{Hearing}
use Rattle.receiving.specs.declared.Hearing.TheVariants.{Drop, Hold, Restart, Empty, Line, Confirm, Frame, TooLong}
use Rattle.receiving.specs.Receivers.{held_text, hurt_place}
use Rattle.deciding.specs.Verdicts.{Verdict, Refuse, Leave, Enter, Password, Read, WriteClock, WriteAccount, WriteTable}
use Rattle.deciding.specs.Verdict.{verdict}
use Rattle.replies.specs.Plain.{without_archive}
use Rattle.replies.proofs.Handed.{asked-alike, block-alike}
use Rattle.meter.specs.declared.Event.{Event}
use Rattle.meter.specs.declared.Event.TheVariants.{Character, Silence, Tick, Pulse, PowerUp, PulseOut, Unknown}
use Rattle.meter.specs.declared.Says.{Says}
use Rattle.meter.specs.declared.Says.TheVariants.{Nothing, Refusal, Identification, Block, Invitation, Accepted, Asked}
use Rattle.meter.specs.declared.Standing.{Standing}
use Rattle.meter.specs.declared.Deed.{Deed}
use Rattle.meter.specs.Outcomes.{Outcome, silent, nak, at_place}
use Rattle.meter.specs.SignOn.{signs_on_by, closes_by, wants_block, wants_periods, wants_program}
use Rattle.meter.specs.Acting.{password_given, tried, acted}
use Rattle.meter.specs.Character.{symbol, line_ended, confirmed, frame_ended, heard}
use Rattle.meter.specs.Events.{after_silence, after_power_up}
use Rattle.meter.specs.Deeds.{standing_of, plain_of, short_said, long_said, said_by, RoomFor, Writable, account_after, clock_after, tables_after, closes_after, done, refuses, month_started, line_deed, confirmation_deed, password_deed, row_deed, verdict_deed, frame_deed, acts, heard_deed, character_deed, silence_deed, left_deed, starts}
use Rattle.meter.specs.Life.{refusal}
use Rattle.meter.proofs.Tests.{character-room, silence-room}
use Rattle.meter.proofs.Known.{table-low, table-high}
use Rattle.meter.proofs.Places.{whole-frame}

-- of two deeds the one that a test chooses
chosen : (m : Meter) (b : Bool) (o p : Outcome) (d e : Deed) → o ≡ done m d → p ≡ done m e → cond b o p ≡ done m (cond b d e)
chosen m true o p d e f g = f
chosen m false o p d e f g = g

pub line-done : (m : Meter) → line_ended m ≡ done m (line_deed (standing_of m) m.receiver.held)
unfolding line_ended line_deed said_by short_said account_after clock_after tables_after closes_after
line-done m =
    chosen m (marked m.receiver) _ _ _ _ refl
    (chosen m (signs_on_by (link_of m) (held_text m.receiver) m.registers.facts.serial) _ _ _ _ refl
    (chosen m (closes_by (link_of m) (held_text m.receiver)) _ _ _ _ refl refl))

pub confirmation-done : (m : Meter) (c : ℕ) (damaged : Bool) → confirmed m c damaged ≡ done m (confirmation_deed (standing_of m) m.receiver.held c damaged)
unfolding confirmed confirmation_deed said_by short_said account_after clock_after tables_after closes_after
confirmation-done m c damaged =
    chosen m (marked m.receiver || damaged) _ _ _ _ refl
    (chosen m (wants_block (link_of m) (held_text m.receiver) c) _ _ _ _ refl
    (chosen m (wants_periods (link_of m) (held_text m.receiver) c) _ _ _ _ refl
    (chosen m (wants_program (link_of m) (held_text m.receiver) c) _ _ _ _ refl refl)))

password-done : (m : Meter) → tried m ≡ done m (password_deed (standing_of m) m.receiver.held)
unfolding tried password_deed said_by short_said account_after clock_after tables_after closes_after
password-done m =
    chosen m (eqb m.attempts 3) _ _ _ _ refl
    (chosen m (same_text (password_given m) m.registers.facts.password) _ _ _ _ refl refl)

verdict-done : (m : Meter) (v : Verdict) → acted m v ≡ done m (verdict_deed (standing_of m) m.receiver.held v)
unfolding acted verdict_deed row_deed said_by short_said account_after clock_after tables_after closes_after
verdict-done m (Refuse n) = refl
verdict-done m Leave = refl
verdict-done m Enter = refl
verdict-done m Password = password-done m
verdict-done m (Read a) = refl
verdict-done m (WriteClock c) = refl
verdict-done m WriteAccount = refl
verdict-done m (WriteTable t) = chosen m (good_table (tables_in m.registers) t.0) _ _ _ _ refl refl

-- a frame with a damaged character is refused, whatever it would have been
hurt-frame : (m : Meter) (c : ℕ) (damaged : Bool) → (marked m.receiver || damaged) ≡ true → frame_ended m c damaged ≡ at_place (nak 3 m) (hurt_place m.receiver damaged)
unfolding verdict acted
hurt-frame m c damaged h = rw h refl

pub frame-done : (m : Meter) (c : ℕ) (damaged : Bool) → frame_ended m c damaged ≡ done m (frame_deed (standing_of m) m.receiver.held c damaged)
unfolding frame_deed said_by short_said account_after clock_after tables_after closes_after
frame-done m c damaged = go (marked m.receiver || damaged) refl
  where
    s : Standing
    s = standing_of m

    go : (b : Bool) → (marked m.receiver || damaged) ≡ b
        → frame_ended m c damaged
        ≡ done m (cond b (refuses s 3 (hurt_place m.receiver damaged) m.attempts) (verdict_deed s m.receiver.held (verdict (tables_in m.registers) (family_of m) m.mode (held_text m.receiver) false c)))
    go true h = hurt-frame m c damaged h
    go false h = whole-frame m c damaged h ∙ verdict-done m _

-- the hearings that a meter acts on
pub heard-done : (m : Meter) (c : ℕ) (damaged : Bool) (h : Hearing) → acts h ≡ true → heard m c damaged h ≡ done m (heard_deed (standing_of m) m.receiver.held h c damaged)
unfolding heard heard_deed acts said_by short_said account_after clock_after tables_after closes_after
heard-done m c damaged Drop e = absurd (let z : ◌≡◌ {A = ℕ} 0 1 = cc in omega arith)
heard-done m c damaged Hold e = absurd (let z : ◌≡◌ {A = ℕ} 0 1 = cc in omega arith)
heard-done m c damaged Restart e = absurd (let z : ◌≡◌ {A = ℕ} 0 1 = cc in omega arith)
heard-done m c damaged Empty e = absurd (let z : ◌≡◌ {A = ℕ} 0 1 = cc in omega arith)
heard-done m c damaged Line e = line-done m
heard-done m c damaged Confirm e = confirmation-done m c damaged
heard-done m c damaged Frame e = frame-done m c damaged
heard-done m c damaged TooLong e = refl

pub silence-done : (m : Meter) → after_silence m ≡ done m (silence_deed (standing_of m))
unfolding after_silence silence_deed said_by short_said account_after clock_after tables_after closes_after
silence-done m = chosen m (eqb m.mode 0) _ _ _ _ refl (chosen m (eqb m.mode 1) _ _ _ _ refl refl)

pub start-done : (m : Meter) → after_power_up m ≡ done m (starts (standing_of m))
unfolding said_by short_said account_after clock_after tables_after closes_after
start-done m = refl

-- the second that starts a month, after which the clock shows c
pub month-done : (m : Meter) (c : Clock) → silent 1 (with_registers m (closing (with_clock m.registers c))) ≡ done m (month_started (standing_of m) c)
unfolding said_by short_said account_after clock_after tables_after closes_after
month-done m c = refl

-- no archive is looked at where no closed periods are said
pub short-alike : (g : Registers) (x : Says) → short_said (without_archive (plain_of g) g.tables) x ≡ short_said g x
unfolding short_said
short-alike g Nothing = refl
short-alike g Refusal = refl
short-alike g Identification = refl
short-alike g Block = ap block_of (block-alike (plain_of g) g.tables g.archive (tables_in g))
short-alike g Invitation = refl
short-alike g Accepted = refl
short-alike g (Asked a) = ap block_of (asked-alike (plain_of g) g.tables g.archive a)

-- what a deed says of a meter that is handed over but for what is long
pub said-short : (m : Meter) (d : Deed) → d.long ≡ false → short_said (without_archive (plain_of m.registers) m.registers.tables) d.says ≡ said_by m.registers d
unfolding said_by
said-short m d h = rw h (short-alike m.registers d.says)

pub said-long : (m : Meter) (d : Deed) → d.long ≡ true → long_said m.registers ≡ said_by m.registers d
unfolding said_by
said-long m d h = rw h refl

-- room for any reply is room for what is said
pub roomy : (b : Bool) (x : Says) (room : ℕ) → reply_room ≤ room → RoomFor b x room
unfolding RoomFor
roomy true x room h = h
roomy false Nothing room h = tt
roomy false Refusal room h = h
roomy false Identification room h = h
roomy false Block room h = h
roomy false Invitation room h = h
roomy false Accepted room h = h
roomy false (Asked a) room h = h

-- and of what is told to be said there is the same
pub told-room : (x y : Says) (room : ℕ) → x ≡ y → RoomFor false x room → RoomFor false y room
told-room x y room e h = subst (λ (z : Says). RoomFor false z room) e h

-- an event that nothing refuses has it
pub left-roomy : (s : Standing) (held : List ℕ) (clock : Clock) (family room : ℕ) (e : Event) → refusal family room e ≡ 0
    → RoomFor (left_deed s held clock e).long (left_deed s held clock e).says room
unfolding left_deed RoomFor
left-roomy s held clock family room (Character b) h = roomy (character_deed s held b).long (character_deed s held b).says room (character-room family room (Character b) b refl h)
left-roomy s held clock family room Silence h = roomy (silence_deed s).long (silence_deed s).says room (silence-room family room Silence refl h)
left-roomy s held clock family room Tick h = tt
left-roomy s held clock family room (Pulse units) h = tt
left-roomy s held clock family room PowerUp h = tt
left-roomy s held clock family room (PulseOut units) h = tt
left-roomy s held clock family room Unknown h = tt

-- a deed writes no row but to a table that there is
either : (b : Bool) (d e : Deed) → (b ≡ true → Writable d.writes) → Writable e.writes → Writable (cond b d e).writes
either true d e f g = f refl
either false d e f g = g

verdict-writable : (s : Standing) (held : List ℕ) (v : Verdict) → Writable (verdict_deed s held v).writes
unfolding verdict_deed password_deed row_deed Writable
verdict-writable s held (Refuse n) = tt
verdict-writable s held Leave = tt
verdict-writable s held Enter = tt
verdict-writable s held Password = either (eqb s.attempts 3) _ _ (λ _. tt) (either (same_text (take 8 (drop 5 held)) s.facts.password) _ _ (λ _. tt) tt)
verdict-writable s held (Read a) = tt
verdict-writable s held (WriteClock c) = tt
verdict-writable s held WriteAccount = tt
verdict-writable s held (WriteTable t) =
    either (good_table (tables_of s.facts.edition) t.0) _ _
    (λ good. (table-low (tables_of s.facts.edition) t.0 good, table-high s.facts.edition t.0 good)) tt

pub heard-writable : (s : Standing) (held : List ℕ) (h : Hearing) (c : ℕ) (damaged : Bool) → Writable (heard_deed s held h c damaged).writes
unfolding heard_deed line_deed confirmation_deed frame_deed Writable
heard-writable s held Drop c damaged = tt
heard-writable s held Hold c damaged = tt
heard-writable s held Restart c damaged = tt
heard-writable s held Empty c damaged = tt
heard-writable s held Line c damaged =
    either (eqb s.mark 1) _ _ (λ _. tt)
    (either (signs_on_by s.facts.link (take s.count held) s.facts.serial) _ _ (λ _. tt)
    (either (closes_by s.facts.link (take s.count held)) _ _ (λ _. tt) tt))
heard-writable s held Confirm c damaged =
    either (eqb s.mark 1 || damaged) _ _ (λ _. tt)
    (either (wants_block s.facts.link (take s.count held) c) _ _ (λ _. tt)
    (either (wants_periods s.facts.link (take s.count held) c) _ _ (λ _. tt)
    (either (wants_program s.facts.link (take s.count held) c) _ _ (λ _. tt) tt)))
heard-writable s held Frame c damaged = either (eqb s.mark 1 || damaged) _ _ (λ _. tt) (verdict-writable s held _)
heard-writable s held TooLong c damaged = tt

pub silence-writable : (s : Standing) → Writable (silence_deed s).writes
unfolding silence_deed Writable
silence-writable s = either (eqb s.mode 0) _ _ (λ _. tt) (either (eqb s.mode 1) _ _ (λ _. tt) tt)

pub left_writable : (s : Standing) (held : List ℕ) (clock : Clock) (e : Event) → Writable (left_deed s held clock e).writes
unfolding left_deed character_deed Writable
left_writable s held clock (Character b) = heard-writable s held _ (symbol b) (damaged_at b)
left_writable s held clock Silence = silence-writable s
left_writable s held clock Tick = tt
left_writable s held clock (Pulse units) = tt
left_writable s held clock PowerUp = tt
left_writable s held clock (PulseOut units) = tt
left_writable s held clock Unknown = tt
