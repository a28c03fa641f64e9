-- Request [7], end to end: which meter a session is for, and how their conversation goes.
use Rattle.std.specs.Prelude.{◌≡◌, true, false, cond, ◌⊎◌, ℕ, ◌+◌, ◌/◌, ◌≤◌, ◌<◌, eqb, length, take, set, replicate}
use mathlib.Core.List.{List, Memᴰ}
use Rattle.values.specs.Edition.{tables_of}
use Rattle.line.specs.Quoted.{char}
use Rattle.values.specs.Registers.{good_table}
use Rattle.frames.specs.Frames.{block_of, on_wire}
use Rattle.state.specs.Sizes.{reply_room}
use Rattle.state.specs.declared.Meter.{Meter}
use Rattle.state.specs.WellFormed.{well_formed, tables_in, edition_of, family_of}
use Rattle.state.specs.Link.{link_of, is_wired}
use Rattle.state.specs.Setting.{with_attempts, with_tables}
use Rattle.replies.specs.declared.Ask.{Ask}
use Rattle.replies.specs.Shown.{row_of}
use Rattle.replies.specs.Answers.{asked_data}
use Rattle.deciding.specs.Verdicts.{Read}
use Rattle.commands.specs.Messages.{good_message}
use Rattle.post.specs.Grammar.{Entry, IsPost}
use Rattle.session.specs.declared.Session.{Session}
use Rattle.session.specs.Messages.{read_at, message_at}
use Rattle.session.specs.Starting.{Told, Opening}
use Rattle.dialogue.specs.Messages.{decided_as, Listens}
use Rattle.recital.specs.Recital.{answer_says, ReadsBack}
use Rattle.delivery.specs.Acknowledged.{rows_after, delivered_to}
use Rattle.conversation.specs.Conversation.{Talk, begun, reply_to, heard_as, exchange_of, converse, asking, stopped}

-- well-formed, on the optical link, in listening mode, with an empty receiver
pub record Waits (m : Meter) : Type 0 where
  pub formed : well_formed m ≡ true
  pub optical : is_wired (link_of m) ≡ false
  pub listening : m.mode ≡ 0
  pub empty : m.receiver.count ≡ 0

-- [3], [10]: the session is for a meter of its edition and its family
abbrev pub ForMeter : Told → Meter → Type 0
ForMeter t m = (t.edition ≡ edition_of m) × (t.decimals ≡ family_of m)

abbrev pub Suits : Session → Meter → Type 0
Suits s m = (s.edition ≡ edition_of m) × (s.decimals ≡ family_of m)

-- the head calls any meter, or this one by its serial, or by the zeros that every meter answers
pub data Calls (t : Told) (m : Meter) : Type 0 where
  anyone : t.named ≡ 0 → Calls t m
  by-serial : t.named ≡ 1 → t.serial ≡ m.registers.facts.serial → Calls t m
  by-zeros : t.named ≡ 1 → t.serial ≡ replicate 10 (char "0") → Calls t m

-- it enters by `()`, or with the meter's password while attempts are left
pub data Enters (t : Told) (m : Meter) : Type 0 where
  plainly : t.access ≡ 0 → Enters t m
  by-password : t.access ≡ 1 → t.password ≡ m.registers.facts.password → m.attempts < 3 → Enters t m

-- the attempts then
unfoldable pub attempts_after : Told → Meter → ℕ
attempts_after t m = cond (eqb t.access 1) 0 m.attempts

-- buffers of full size
pub record Roomy (rooms : ℕ → ℕ → ℕ) (buffers : ℕ → ℕ) : Type 0 where
  pub replies : (k i : ℕ) → reply_room ≤ rooms k i
  pub messages : (k : ℕ) → 64 ≤ buffers k

-- after fewer exchanges the next message is out, the meter listens for it, and nothing has ended the session; after so many it has stopped
-- with a fact, at the message of that number, and stays so; the meter is then this one, which waits again
pub record StopsAfter (s : Session) (work : List ℕ) (talk : ℕ → Talk) (n fact : ℕ) (after : Meter) : Type 0 where
  pub within : n ≤ s.count + 4
  pub going : (k : ℕ) → k < n → (talk k).turn ≡ asking s work (k + 1)
  pub built : (k : ℕ) → k < n → good_message (tables_of s.edition) s.decimals (message_at s work (k + 1)) ≡ true
  pub suits : (k : ℕ) → k < n → Suits s (talk k).meter
  pub heard : (k : ℕ) → k < n → Listens (talk k).meter (message_at s work (k + 1))
  pub optical : (k : ℕ) → k < n → is_wired (link_of (talk k).meter) ≡ false
  pub stops : (talk n).turn ≡ stopped s n fact
  pub meter : (talk n).meter ≡ after
  pub waits : Waits after
  pub stays : (k : ℕ) → n ≤ k → talk k ≡ talk n

module _ (t : Told) (work : List ℕ) (o : Opening) (m : Meter) (rooms : ℕ → ℕ → ℕ) (buffers : ℕ → ℕ) where
  -- from the start on
  abbrev pub talk_of : ℕ → Talk
  talk_of = converse rooms buffers work (begun o m)

  -- what the meter says in the exchange after so many
  abbrev pub said_after : ℕ → List ℕ
  said_after k = reply_to (talk_of k).meter (rooms k) (on_wire (talk_of k).turn.text)

  abbrev pub Stops : ℕ → ℕ → Meter → Type 0
  Stops = StopsAfter o.session work talk_of

  -- a read is answered with the block that it asks for, and that reads back to the meter's own registers
  pub record ReadBack (i : ℕ) : Type 0 where
    pub asks : Ask
    pub decided : decided_as (read_at work i) ≡ Read asks
    pub said : said_after (i + 3) ≡ block_of (asked_data m.registers asks)
    pub reads : ReadsBack (asked_data m.registers asks) (answer_says m.registers asks)

  -- done after as many exchanges as there are reads and four more; the meter is as it was, attempts aside where a password was given
  pub record ReadsDone : Type 0 where
    pub done : Stops (length work / 2 + 4) 1 (with_attempts m (attempts_after t m))
    pub each : (i : ℕ) → i < length work / 2 → ReadBack i

  -- done after as many exchanges as there are lines and four more; the tables hold the rows of the lines sent so far, and at the end
  -- all that were posted, the attempts are 0, all else is as it was
  pub record PostDone : Type 0 where
    pub is-post : IsPost (tables_of t.edition) work
    pub done : Stops (length is-post.entries + 4) 1 (with_attempts (delivered_to m is-post.entries) 0)
    pub so_far : (i : ℕ) → i ≤ length is-post.entries
        → (talk_of (i + 3)).meter.registers ≡ with_tables m.registers (rows_after m.registers.tables (take i is-post.entries))
    pub named : (e : Entry) → Memᴰ e is-post.entries → row_of (talk_of (length is-post.entries + 4)).meter.registers.tables e.number ≡ e.row
    pub others : (n : ℕ) → good_table (tables_in m.registers) n ≡ true → ((e : Entry) → Memᴰ e is-post.entries → e.number ≡ n → ⊥)
        → row_of (talk_of (length is-post.entries + 4)).meter.registers.tables n ≡ row_of m.registers.tables n

  -- in the exchange after so many, one byte of the message comes damaged
  abbrev pub hurt_after : ℕ → ℕ → ℕ → Talk
  hurt_after k j b = exchange_of (rooms k) (buffers k) work (talk_of k) (set (on_wire (talk_of k).turn.text) j b)

  -- the head stops at that message, with NAK or silence; the registers and the attempts are as the messages before left them
  pub record MessageHurt (k j b : ℕ) : Type 0 where
    pub stops : ((hurt_after k j b).turn ≡ stopped o.session (k + 1) 2) ⊎ ((hurt_after k j b).turn ≡ stopped o.session (k + 1) 4)
    pub registers : (hurt_after k j b).meter.registers ≡ (talk_of k).meter.registers
    pub attempts : (hurt_after k j b).meter.attempts ≡ (talk_of k).meter.attempts

  -- these bytes come as the reply in the exchange after so many: the head stops at that message, with this fact
  pub record ReplyStops (k : ℕ) (reply : List ℕ) (fact : ℕ) : Type 0 where
    pub stops : heard_as (talk_of k).turn.next work reply (buffers k) ≡ stopped o.session (k + 1) fact
