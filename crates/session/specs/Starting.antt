-- Request [7]: what a session is told, and how it starts. 16, 18, 28, 29, 20, 30 and 9 in this order, before anything is sent.
use Rattle.std.specs.Prelude.{◌≡◌, Bool, true, false, cond, ◌&&◌, List, [], ℕ, Result, Ok, Err, ◌/◌, ◌≤◌, ◌<◌, eqb, ltb, length, replicate}
use Rattle.text.specs.Writing.{holding}
use Rattle.values.specs.Edition.{is_edition, tables_of}
use Rattle.values.specs.Family.{is_family}
use Rattle.values.specs.Registers.{good_serial, good_password}
use Rattle.frames.specs.Frames.{on_wire}
use Rattle.commands.specs.Messages.{text_of}
use Rattle.post.specs.Grammar.{IsPost}
use Rattle.text.specs.Beginnings.{Longest}
use Rattle.session.specs.declared.Session.{Session}
use Rattle.session.specs.declared.Begun.{Begun}
use Rattle.session.specs.declared.Refusal.{Refusal}
use Rattle.session.specs.Refusals.{number_of, place_of}
use Rattle.session.specs.Messages.{calling, reads_good}
use Rattle.session.specs.Standing.{told_good}

-- the edition and, as its decimals, the family; whom to call (0 any meter, 1 the one of a serial), how to enter (0 `()`, 1 a password), what to do (0 reads, 1 a post)
pub record Told : Type 0 where
  pub edition : ℕ
  pub decimals : ℕ
  pub named : ℕ
  pub serial : List ℕ
  pub access : ℕ
  pub password : List ℕ
  pub kind : ℕ

abbrev pub told_of : ℕ → ℕ → ℕ → List ℕ → ℕ → List ℕ → ℕ → Told
told_of edition decimals named serial access password kind =
    record { edition = edition; decimals = decimals; named = named; serial = serial; access = access; password = password; kind = kind }

-- the number, a place, the session, and the characters that are sent first
pub record Opening : Type 0 where
  pub number : ℕ
  pub place : ℕ
  pub session : Session
  pub text : List ℕ

-- a start in numbers: 1 with the session and the length of its sign-on, or the number of a refusal, a place and no session
pub record Started : Type 0 where
  pub number : ℕ
  pub place : ℕ
  pub length : ℕ
  pub session : Session

abbrev pub started_of : Opening → Started
started_of o = record { number = o.number; place = o.place; length = length o.text; session = o.session }

-- no session
abbrev pub no_session : Session
no_session = record { serial = replicate 10 0; password = replicate 8 0; named = 0; access = 0; work = 0; count = 0; sent = 0; fact = 0; edition = 0; decimals = 0 }

-- as the call gives it
abbrev pub start_told : Result Begun Refusal → Started
start_told (Ok b) = record { number = 1; place = 0; length = b.length; session = b.session }
start_told (Err e) = record { number = number_of e; place = place_of e; length = 0; session = no_session }

abbrev pub unopened : ℕ → ℕ → Opening
unopened number place = record { number = number; place = place; session = no_session; text = [] }

-- the session that is told all that, with so many messages of work; the sign-on was sent
unfoldable pub session_of : Told → ℕ → Session
session_of t count =
    record {
      serial = cond (eqb t.named 1) t.serial (replicate 10 0);
      password = cond (eqb t.access 1) t.password (replicate 8 0);
      named = t.named;
      access = t.access;
      work = t.kind;
      count = count;
      sent = 1;
      fact = 0;
      edition = t.edition;
      decimals = t.decimals;
    }

-- 9 covers the serial, the password and the work, in one
unfoldable pub opened : Told → ℕ → Bool → Opening
opened t count good =
    cond ((told_good t.named (good_serial t.serial) && told_good t.access (good_password t.password)) && good)
    (record { number = 1; place = 0; session = session_of t count; text = text_of (calling (session_of t count)) })
    (unopened 9 0)

-- reads, two characters each: none gives 28, more than 32 give 29
unfoldable pub opened_reads : Told → List ℕ → Opening
opened_reads t work =
    cond (eqb (length work) 0) (unopened 28 0) (cond (ltb 64 (length work)) (unopened 29 0) (opened t (length work / 2) (reads_good (tables_of t.edition) t.decimals work)))

-- a post of so many lines: `()` gives 30
unfoldable pub opened_post : Told → ℕ → Opening
opened_post t lines = cond (eqb t.access 0) (unopened 30 0) (opened t lines true)

-- a post
pub record Posting (t : Told) (work : List ℕ) (o : Opening) : Type 0 where
  pub is-post : IsPost (tables_of t.edition) work
  pub opens : o ≡ opened_post t (length is-post.entries)

-- no post: 20 with its place
pub record Unposted (t : Told) (work : List ℕ) (o : Opening) : Type 0 where
  pub no-post : IsPost (tables_of t.edition) work → ⊥
  pub longest : Longest (IsPost (tables_of t.edition)) work o.place
  pub refused : o ≡ unopened 20 o.place

-- there is such an edition and such a family
abbrev pub Known : Told → Type 0
Known t = (is_edition t.edition ≡ true) × (is_family t.decimals ≡ true)

-- what a start comes to: an edition that there is not gives 16, decimals that no meter has 18; a buffer under 64 gives 19; then a kind of work that is none 9; then reads; then a post
pub data Opens (t : Told) (work : List ℕ) (room : ℕ) (o : Opening) : Type 0 where
  unknown : is_edition t.edition ≡ false → o ≡ unopened 16 0 → Opens t work room o
  strange : is_edition t.edition ≡ true → is_family t.decimals ≡ false → o ≡ unopened 18 0 → Opens t work room o
  small : Known t → room < 64 → o ≡ unopened 19 0 → Opens t work room o
  nothing : Known t → 64 ≤ room → (t.kind ≡ 0 → ⊥) → (t.kind ≡ 1 → ⊥) → o ≡ unopened 9 0 → Opens t work room o
  reads : Known t → 64 ≤ room → t.kind ≡ 0 → o ≡ opened_reads t work → Opens t work room o
  posts : Known t → 64 ≤ room → t.kind ≡ 1 → Posting t work o → Opens t work room o
  others : Known t → 64 ≤ room → t.kind ≡ 1 → Unposted t work o → Opens t work room o

-- a start's whole promise: the answer, and the buffer that begins with the sign-on just where the session starts
pub record Starts (t : Told) (work buf : List ℕ) (r : Started) (after : List ℕ) : Type 0 where
  pub opening : Opening
  pub opens : Opens t work (length buf) opening
  pub answer : r ≡ started_of opening
  pub held : after ≡ holding buf (on_wire opening.text)
