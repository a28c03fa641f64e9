-- What the head's calls put in its buffer is what the conversation sends; and there are conversations. Assumes nothing.
use mathlib.Core.Path.{◌≡◌, refl, sym, ap, ap₂, ◌∙◌}
use mathlib.Core.List.{List, [], ◌∷◌}
use Prim.Native.Nat.{ℕ}
use native.Mathlib.Omega.{arith}
use lib.Dec.{lit≤}
use lib.ListN.{length, take, drop, length-map}
use lib.Seq.{take-append_seam}
use Rattle.values.specs.Edition.{is_edition}
use Rattle.values.specs.Family.{is_family}
use Rattle.text.specs.Classes.{between}
use Rattle.line.specs.Characters.{sent}
use Rattle.line.specs.Quoted.{char}
use Rattle.text.specs.Writing.{holding}
use Rattle.frames.specs.Frames.{on_wire}
use Rattle.state.specs.Sizes.{reply_room}
use Rattle.state.specs.Making.{blank_meter}
use Rattle.state.specs.Link.{is_wired}
use Rattle.promises.proofs.Beginning.{blank-well-formed}
use Rattle.session.specs.Messages.{read_of, reads_good}
use Rattle.session.specs.Standing.{told_good}
use Rattle.session.specs.Starting.{Told, Started, told_of, reads, opened, opened_reads, Starts}
use Rattle.session.specs.Turns.{Turn, Step, step_of}
use Rattle.commands.specs.Spoken.{good_fields}
use Rattle.conversation.specs.Ends.{Waits, anyone, plainly, ReadsDone}
use Rattle.conversation.proofs.Readings.{reads-done}

at_front : (text buf : List ℕ) → take (length text) (holding buf (on_wire text)) ≡ on_wire text
unfolding holding
at_front text buf = ap (λ (n : ℕ). take n (holding buf (on_wire text))) (sym (length-map text sent)) ∙ take-append_seam (on_wire text) (drop (length (on_wire text)) buf)

-- a start with answer 1: the buffer begins with the sign-on of the session that it opens
pub start-sends : (t : Told) (work buf : List ℕ) (r : Started) (after : List ℕ) (x : Starts t work buf r after)
    → take r.length after ≡ on_wire x.opening.text
start-sends t work buf r after x =
    ap₂ (λ (y : Started) (l : List ℕ). take y.length l) x.answer x.held ∙ at_front x.opening.text buf

-- a reply heard: the buffer begins with the next message
pub turn-sends : (u : Turn) (buf : List ℕ) (r : Step) (after : List ℕ) → r ≡ step_of u → after ≡ holding buf (on_wire u.text) → take r.length after ≡ on_wire u.text
turn-sends u buf r after e h = ap₂ (λ (y : Step) (l : List ℕ). take y.length l) e h ∙ at_front u.text buf

-- ---- a blank meter, asked for its account

blank-waits : Waits blank_meter
blank-waits = record { formed = blank-well-formed; optical = unfold is_wired in refl; listening = refl; empty = refl }

abbrev told : Told
told = told_of 1 0 0 [] 0 [] 0

abbrev one-read : List ℕ
one-read = char "K" ∷ 0 ∷ []

one-opens : (opened_reads told one-read).number ≡ 1
unfolding opened_reads opened told_good reads_good read_of good_fields
one-opens = refl

pub one-read-done : ReadsDone told one-read (opened_reads told one-read) blank_meter (λ k i. reply_room) (λ k. 64)
one-read-done =
    reads-done told one-read 64 (opened_reads told one-read) (reads (unfold is_edition is_family between in (refl, refl)) (lit≤ tt) refl refl) one-opens refl blank_meter blank-waits (refl, refl) (anyone refl) (plainly refl)
    (λ k i. reply_room) (λ k. 64) (record { replies = λ k i. omega arith; messages = λ k. omega arith })
