-- An event that a meter has to act on, as a deed: what it answers, what it says, where the session goes, and what is written. `done` is all that comes of one,
-- and each rule of document 01 is the deed of its words (`proofs/Done.antt`). A deed is decided without the tables and the archive.
use Rattle.std.specs.Prelude.{Bool, true, false, cond, ◌||◌, List, [], ℕ, ◌+◌, ◌-◌, ◌≤◌, eqb, length, take, drop, get_or}
use Rattle.line.specs.Characters.{damaged_at}
use Rattle.text.specs.Classes.{same_text}
use Rattle.clock.specs.declared.Clock.{Clock}
use Rattle.clock.specs.Seconds.{next_second}
use Rattle.values.specs.declared.TableNo.{TableNo}
use Rattle.values.specs.Edition.{tables_of}
use Rattle.values.specs.Registers.{good_table}
use Rattle.frames.specs.Frames.{block_of}
use Rattle.frames.specs.Session.{speed_said}
use Rattle.state.specs.Sizes.{row_length, table_places, reply_room}
use Rattle.state.specs.declared.Meter.{Meter}
use Rattle.state.specs.declared.Receiver.{Receiver}
use Rattle.state.specs.declared.Registers.{Registers}
use Rattle.state.specs.declared.Archive.{Archive}
use Rattle.state.specs.WellFormed.{tables_in}
use Rattle.state.specs.Making.{empty_receiver}
use Rattle.state.specs.Setting.{meter_in, speed_in, with_account, with_clock, with_tables, with_row}
use Rattle.state.specs.Closing.{closing, period_of, closed_with}
use Rattle.state.specs.Link.{rest_speed}
use Rattle.receiving.specs.declared.Hearing.{Hearing}
use Rattle.receiving.specs.declared.Hearing.TheVariants.{Drop, Hold, Restart, Empty, Line, Confirm, Frame, TooLong}
use Rattle.receiving.specs.Hearing.{hearing}
use Rattle.receiving.specs.Receivers.{hurt_at}
use Rattle.deciding.specs.Verdicts.{Verdict, Refuse, Leave, Enter, Password, Read, WriteClock, WriteAccount, WriteTable}
use Rattle.deciding.specs.Verdict.{verdict}
use Rattle.replies.specs.declared.Ask.{Ask}
use Rattle.replies.specs.declared.Plain.{Plain}
use Rattle.replies.specs.Answers.{asked_data}
use Rattle.replies.specs.Block.{block_data}
use Rattle.replies.specs.Periods.{long_start, long_data}
use Rattle.replies.specs.Fixed.{accepted, password_ask}
use Rattle.meter.specs.declared.Event.{Event}
use Rattle.meter.specs.declared.Event.TheVariants.{Character, Silence, Tick, Pulse, PowerUp, PulseOut, Unknown}
use Rattle.meter.specs.declared.Says.{Says}
use Rattle.meter.specs.declared.Says.TheVariants.{Nothing, Refusal, Identification, Block, Invitation, Accepted, Asked}
use Rattle.meter.specs.declared.Writes.{Writes}
use Rattle.meter.specs.declared.Writes.TheVariants.{None, ClockSet, AccountSet, RowSet, Closed, MonthClosed}
use Rattle.meter.specs.declared.Standing.{Standing}
use Rattle.meter.specs.declared.Small.{Small}
use Rattle.meter.specs.declared.Deed.{Deed}
use Rattle.meter.specs.declared.Acted.{Acted}
use Rattle.meter.specs.Link.{identified, refused_reply, after_refusal}
use Rattle.meter.specs.SignOn.{signs_on_by, closes_by, wants_block, wants_periods, wants_program}
use Rattle.meter.specs.Character.{symbol}
use Rattle.meter.specs.Outcomes.{Outcome}

-- what decides of a meter, besides what it holds
abbrev pub standing_of : Meter → Standing
standing_of m =
    record {
      mode = m.mode;
      attempts = m.attempts;
      speed = m.speed;
      count = m.receiver.count;
      mark = m.receiver.mark;
      place = m.receiver.place;
      facts = m.registers.facts;
    }

-- a meter but for its tables and its archive
abbrev pub plain_of : Registers → Plain
plain_of g = record { facts = g.facts; account = g.account; clock = g.clock; counters = g.counters; exported = g.exported }

abbrev pub small_of : Meter → Small
small_of m = record { mode = m.mode; attempts = m.attempts; speed = m.speed; receiver = m.receiver; plain = plain_of m.registers }

abbrev pub standing_in : Small → Standing
standing_in s =
    record {
      mode = s.mode;
      attempts = s.attempts;
      speed = s.speed;
      count = s.receiver.count;
      mark = s.receiver.mark;
      place = s.receiver.place;
      facts = s.plain.facts;
    }

-- what is said, in the registers' own words
unfoldable pub short_said : Registers → Says → List ℕ
short_said g Nothing = []
short_said g Refusal = refused_reply g.facts.link
short_said g Identification = identified g.facts.link g.facts.edition g.facts.serial
short_said g Block = block_of (block_data (tables_in g) g)
short_said g Invitation = password_ask
short_said g Accepted = accepted
short_said g (Asked a) = block_of (asked_data g a)

-- with the closed periods, where the deed says so
abbrev pub long_said : Registers → List ℕ
long_said g = block_of (long_data (tables_in g) g)

-- of that, what stands before the periods
abbrev pub long_begun : Registers → List ℕ
long_begun g = long_start (tables_in g) g

unfoldable pub said_by : Registers → Deed → List ℕ
said_by g d = cond d.long (long_said g) (short_said g d.says)

-- what is written; the account and the row are what the receiver holds of them
unfoldable pub account_after : List ℕ → List ℕ → Writes → List ℕ
account_after held account None = account
account_after held account (ClockSet c) = account
account_after held account AccountSet = take 10 (drop 6 held)
account_after held account (RowSet t) = account
account_after held account Closed = account
account_after held account (MonthClosed c) = account

unfoldable pub clock_after : Clock → Writes → Clock
clock_after clock None = clock
clock_after clock (ClockSet c) = c
clock_after clock AccountSet = clock
clock_after clock (RowSet t) = clock
clock_after clock Closed = clock
clock_after clock (MonthClosed c) = c

unfoldable pub tables_after : List ℕ → List ℕ → Writes → List ℕ
tables_after held tables None = tables
tables_after held tables (ClockSet c) = tables
tables_after held tables AccountSet = tables
tables_after held tables (RowSet t) = with_row tables t.0 (take row_length (drop 9 held))
tables_after held tables Closed = tables
tables_after held tables (MonthClosed c) = tables

unfoldable pub closes_after : Writes → Bool
closes_after None = false
closes_after (ClockSet c) = false
closes_after AccountSet = false
closes_after (RowSet t) = false
closes_after Closed = true
closes_after (MonthClosed c) = true

-- there is room for what is said; nothing needs none
unfoldable pub RoomFor : Bool → Says → ℕ → Type 0
RoomFor true x room = reply_room ≤ room
RoomFor false Nothing room = Unit {0}
RoomFor false Refusal room = reply_room ≤ room
RoomFor false Identification room = reply_room ≤ room
RoomFor false Block room = reply_room ≤ room
RoomFor false Invitation room = reply_room ≤ room
RoomFor false Accepted room = reply_room ≤ room
RoomFor false (Asked a) room = reply_room ≤ room

-- a row is written to a table that there is room for
unfoldable pub Writable : Writes → Type 0
Writable None = Unit {0}
Writable (ClockSet c) = Unit {0}
Writable AccountSet = Unit {0}
Writable (RowSet t) = (1 ≤ t.0) × (t.0 ≤ table_places)
Writable Closed = Unit {0}
Writable (MonthClosed c) = Unit {0}

-- what is answered and stored, but for the tables and the archive, where so much was said
abbrev pub answered : Small → ℕ → Deed → Acted
answered s long d =
    record {
      number = d.number;
      length = long;
      speed = d.speed;
      place = d.place;
      mode = d.mode;
      attempts = d.attempts;
      rate = d.rate;
      receiver = cond d.empties empty_receiver s.receiver;
      account = account_after s.receiver.held s.plain.account d.writes;
      clock = clock_after s.plain.clock d.writes;
      writes = d.writes;
    }

abbrev pub acted_with : Small → List ℕ → Deed → Acted
acted_with s said d = answered s (length said) d

-- the archive afterwards
abbrev pub archive_after : Registers → Acted → Archive
archive_after g a = cond (closes_after a.writes) (closed_with (period_of a.clock g.counters g.exported) g.archive) g.archive

-- and the meter
abbrev pub stored_in : Meter → Acted → Meter
stored_in m a =
    meter_in a.mode a.attempts a.rate a.receiver
    (record {
      facts = m.registers.facts;
      account = a.account;
      clock = a.clock;
      counters = m.registers.counters;
      exported = m.registers.exported;
      tables = tables_after m.receiver.held m.registers.tables a.writes;
      archive = archive_after m.registers a;
    })

-- all that comes of a deed
abbrev pub done : Meter → Deed → Outcome
done m d =
    record {
      number = d.number;
      speed = d.speed;
      reply = said_by m.registers d;
      place = d.place;
      next = stored_in m (acted_with (small_of m) (said_by m.registers d) d);
    }

-- at the link's own speed, with an empty receiver: this number, then this mode and so many attempts; this said and this written
abbrev pub at_rest : Standing → ℕ → ℕ → ℕ → Says → Writes → Deed
at_rest s number mode attempts says writes =
    record {
      number = number;
      place = 0;
      speed = rest_speed s.facts.link;
      mode = mode;
      attempts = attempts;
      rate = rest_speed s.facts.link;
      empties = true;
      long = false;
      says = says;
      writes = writes;
    }

-- nothing said, then mode 0
abbrev pub rests : Standing → ℕ → Deed
rests s number = at_rest s number 0 s.attempts Nothing None

-- 3 to 11, at this place and with so many attempts
abbrev pub refuses : Standing → ℕ → ℕ → ℕ → Deed
refuses s number place attempts =
    record {
      number = number;
      place = place;
      speed = s.speed;
      mode = after_refusal s.facts.link s.mode;
      attempts = attempts;
      rate = speed_in s.facts.link (after_refusal s.facts.link s.mode) s.speed;
      empties = true;
      long = false;
      says = Refusal;
      writes = None;
    }

-- ACK, then another mode
abbrev pub goes_to : Standing → ℕ → ℕ → Deed
goes_to s mode attempts =
    record {
      number = 1;
      place = 0;
      speed = s.speed;
      mode = mode;
      attempts = attempts;
      rate = speed_in s.facts.link mode s.speed;
      empties = true;
      long = false;
      says = Accepted;
      writes = None;
    }

-- in the same session
abbrev pub stays : Standing → Says → Writes → Deed
stays s says writes =
    record {
      number = 1;
      place = 0;
      speed = s.speed;
      mode = s.mode;
      attempts = s.attempts;
      rate = s.speed;
      empties = true;
      long = false;
      says = says;
      writes = writes;
    }

-- the identification, then mode 1
abbrev pub signs_on : Standing → Writes → Deed
signs_on s writes = at_rest s 1 1 s.attempts Identification writes

-- a block at a speed, with the closed periods or without, then mode 0
abbrev pub reads_out : Standing → ℕ → Bool → Deed
reads_out s speed long =
    record {
      number = 1;
      place = 0;
      speed = speed;
      mode = 0;
      attempts = s.attempts;
      rate = rest_speed s.facts.link;
      empties = true;
      long = long;
      says = Block;
      writes = None;
    }

-- P0, then mode 2 at its speed
abbrev pub invites : Standing → ℕ → Deed
invites s speed =
    record {
      number = 1;
      place = 0;
      speed = speed;
      mode = 2;
      attempts = s.attempts;
      rate = speed;
      empties = true;
      long = false;
      says = Invitation;
      writes = None;
    }

-- silence in mode 1
abbrev pub interrupted : Standing → Deed
interrupted s = at_rest s 1 0 s.attempts Refusal None

-- power-up
abbrev pub starts : Standing → Deed
starts s = at_rest s 1 0 0 Nothing None

-- the second that starts a month: the receiver stays
abbrev pub month_started : Standing → Clock → Deed
month_started s c =
    record {
      number = 1;
      place = 0;
      speed = s.speed;
      mode = s.mode;
      attempts = s.attempts;
      rate = s.speed;
      empties = false;
      long = false;
      says = Nothing;
      writes = MonthClosed c;
    }

unfoldable pub line_deed : Standing → List ℕ → Deed
line_deed s held =
    cond (eqb s.mark 1) (rests s 0)
    (cond (signs_on_by s.facts.link (take s.count held) s.facts.serial) (signs_on s None)
    (cond (closes_by s.facts.link (take s.count held)) (signs_on s Closed)
    (rests s 0)))

unfoldable pub confirmation_deed : Standing → List ℕ → ℕ → Bool → Deed
confirmation_deed s held c damaged =
    cond (eqb s.mark 1 || damaged) (rests s 2)
    (cond (wants_block s.facts.link (take s.count held) c) (reads_out s (speed_said (get_or held 2 0)) false)
    (cond (wants_periods s.facts.link (take s.count held) c) (reads_out s (speed_said (get_or held 2 0)) true)
    (cond (wants_program s.facts.link (take s.count held) c) (invites s (speed_said (get_or held 2 0)))
    (rests s 2))))

unfoldable pub password_deed : Standing → List ℕ → Deed
password_deed s held =
    cond (eqb s.attempts 3) (refuses s 11 0 s.attempts)
    (cond (same_text (take 8 (drop 5 held)) s.facts.password) (goes_to s 4 0)
    (refuses s 10 0 (s.attempts + 1)))

unfoldable pub row_deed : Standing → TableNo → Deed
row_deed s t = cond (good_table (tables_of s.facts.edition) t.0) (stays s Accepted (RowSet t)) (refuses s 9 0 s.attempts)

unfoldable pub verdict_deed : Standing → List ℕ → Verdict → Deed
verdict_deed s held (Refuse n) = refuses s n 0 s.attempts
verdict_deed s held Leave = goes_to s 0 s.attempts
verdict_deed s held Enter = goes_to s 3 s.attempts
verdict_deed s held Password = password_deed s held
verdict_deed s held (Read a) = stays s (Asked a) None
verdict_deed s held (WriteClock c) = stays s Accepted (ClockSet c)
verdict_deed s held WriteAccount = stays s Accepted AccountSet
verdict_deed s held (WriteTable t) = row_deed s t

unfoldable pub frame_deed : Standing → List ℕ → ℕ → Bool → Deed
frame_deed s held c damaged =
    cond (eqb s.mark 1 || damaged) (refuses s 3 (hurt_at s.count s.mark s.place damaged) s.attempts)
    (verdict_deed s held (verdict (tables_of s.facts.edition) s.facts.decimals s.mode (take s.count held) false c))

-- the hearings that a meter acts on: a character that is held or dropped is no deed
unfoldable pub acts : Hearing → Bool
acts Drop = false
acts Hold = false
acts Restart = false
acts Empty = false
acts Line = true
acts Confirm = true
acts Frame = true
acts TooLong = true

unfoldable pub heard_deed : Standing → List ℕ → Hearing → ℕ → Bool → Deed
heard_deed s held Drop c damaged = rests s 0
heard_deed s held Hold c damaged = rests s 0
heard_deed s held Restart c damaged = rests s 0
heard_deed s held Empty c damaged = rests s 0
heard_deed s held Line c damaged = line_deed s held
heard_deed s held Confirm c damaged = confirmation_deed s held c damaged
heard_deed s held Frame c damaged = frame_deed s held c damaged
heard_deed s held TooLong c damaged = refuses s 5 0 s.attempts

unfoldable pub character_deed : Standing → List ℕ → ℕ → Deed
character_deed s held b = heard_deed s held (hearing s.mode s.count (get_or held (s.count - 1) 0) (symbol b)) (symbol b) (damaged_at b)

unfoldable pub silence_deed : Standing → Deed
silence_deed s = cond (eqb s.mode 0) (rests s 0) (cond (eqb s.mode 1) (interrupted s) (rests s 1))

-- of an event that is not settled; a pulse always is
unfoldable pub left_deed : Standing → List ℕ → Clock → Event → Deed
left_deed s held clock (Character b) = character_deed s held b
left_deed s held clock Silence = silence_deed s
left_deed s held clock Tick = month_started s (next_second clock)
left_deed s held clock (Pulse units) = rests s 0
left_deed s held clock PowerUp = starts s
left_deed s held clock (PulseOut units) = rests s 0
left_deed s held clock Unknown = rests s 0
