-- The delivery of a card, over all cards and all states: its frames fed to a meter that is ready, with rooms of 2,048 or more. The account's
-- frame is a message of `dialogue`, the tables' are those of a post. Assumes nothing.
use mathlib.Core.Path.{◌≡◌, refl, sym, ap, ap₂, subst, ◌∙◌}
use mathlib.Core.Bool.{true}
use mathlib.Core.List.{List, [], ◌∷◌, ◌++◌, map}
use Prim.Native.Nat.{ℕ, ◌-◌, ◌*◌, ◌≤◌}
use native.Mathlib.Omega.{arith}
use borrow.Author.Tests.{leb-true}
use lib.Dec.{leb}
use lib.ListN.{length, take, drop, replicate, length-map}
use lib.Seq.{take-append_seam}
use Rattle.values.proofs.Editions.{tables-most}
use Rattle.state.specs.WellFormed.{tables_in, edition_of}
use Rattle.line.specs.Characters.{sent}
use Rattle.line.proofs.Runs.{and_left}
use Rattle.text.specs.Classes.{between, matching, same_text}
use Rattle.text.specs.Writing.{holding}
use Rattle.values.specs.Registers.{good_account, good_table}
use Rattle.frames.specs.Frames.{frame_of, on_wire}
use Rattle.frames.specs.Commands.{W1, set_account}
use Rattle.state.specs.Sizes.{reply_room}
use Rattle.state.specs.declared.Registers.{Registers}
use Rattle.state.specs.declared.Meter.{Meter}
use Rattle.state.specs.Setting.{with_account, with_tables}
use Rattle.state.proofs.Parts.{formed-registers, registers-good, long}
use Rattle.post.specs.Grammar.{Entry, rising}
use Rattle.export.specs.Frames.{frames_of}
use Rattle.commands.specs.Spoken.{write_account, good_fields, letters_of, data_of, spoken}
use Rattle.commands.specs.Messages.{command, text_of, good_message}
use Rattle.dialogue.specs.Feeding.{Said, answered, left}
use Rattle.dialogue.specs.Messages.{allowed_at, allowed_in, obeyed, outcome_of}
use Rattle.dialogue.proofs.Feeding.{Fed, fed-append, fed-in}
use Rattle.dialogue.proofs.Held.{Fit, idle, idle-is, fit_is}
use Rattle.dialogue.proofs.Dialogue.{message-fed}
use Rattle.delivery.specs.Acknowledged.{nothing, acknowledgement, acknowledged_once, rows_after}
use Rattle.delivery.specs.Delivery.{Ready}
use Rattle.delivery.proofs.Frames.{frames-fed}
use Rattle.delivery.proofs.Rows.{others-kept, named-held}
use Rattle.card.specs.Grammar.{IsCard}
use Rattle.card.specs.Frames.{account_frame, card_frames, Done}
use Rattle.card.proofs.Fields.{account-length}
use Rattle.card.proofs.Frames.{length-account-frame, length-card-frames}
use Rattle.carddelivery.specs.Delivery.{card_acknowledged, carded_to, CardDelivered}

-- registers stay good with a good account
still-fit : (a s : ℕ) (g : Registers) (account : List ℕ) → Fit 4 a s g → good_account account ≡ true → Fit 4 a s (with_account g account)
still-fit a s g account fit good =
    let f = formed-registers g fit.registers in
    record {
      known = fit.known;
      attempts = fit.attempts;
      speed = fit.speed;
      registers = registers-good (with_account g account) (record { facts = f.facts; account = good; clock = f.clock; counters = f.counters; exported = f.exported; tables = f.tables; archive = f.archive });
    }

frame-long : (account : List ℕ) → good_account account ≡ true → length (frame_of W1 (set_account account)) ≡ 19
unfolding account_frame
frame-long account good = sym (length-map (frame_of W1 (set_account account)) sent) ∙ length-account-frame account (account-length account good)

-- the account's frame: the head's command that sets the account
account-fed : (a s : ℕ) (g : Registers) → Fit 4 a s g → (account : List ℕ) → good_account account ≡ true
    → Fed (idle 4 a s g) (account_frame account) (replicate 18 (nothing s) ++ (acknowledgement s ∷ [])) (idle 4 a s (with_account g account))
unfolding account_frame text_of spoken letters_of data_of good_message good_fields allowed_in allowed_at same_text matching outcome_of obeyed
account-fed a s g fit account good =
    let n = frame-long account good in
    let fed = message-fed 4 a s g (command (write_account account)) fit good refl in
    subst (λ (k : ℕ). Fed (idle 4 a s g) (on_wire (frame_of W1 (set_account account))) (replicate k (nothing s) ++ (acknowledgement s ∷ [])) (idle 4 a s (with_account g account))) {x = length (frame_of W1 (set_account account)) - 1} {y = 18} (omega arith) fed

-- and then the tables' frames
frames-all-fed : (a s : ℕ) (g : Registers) → Fit 4 a s g → (account : List ℕ) (es : List Entry) → good_account account ≡ true → rising (tables_in g) 0 es ≡ true
    → Fed (idle 4 a s g) (card_frames account es) (card_acknowledged s es) (idle 4 a s (with_tables (with_account g account) (rows_after g.tables es)))
unfolding card_frames card_acknowledged
frames-all-fed a s g fit account es good h =
    fed-append (idle 4 a s g) (account_frame account) (frames_of es) (replicate 18 (nothing s) ++ (acknowledgement s ∷ [])) (acknowledged_once s es)
    (idle 4 a s (with_account g account)) (idle 4 a s (with_tables (with_account g account) (rows_after g.tables es)))
    (account-fed a s g fit account good) (frames-fed a s (with_account g account) 0 es (still-fit a s g account fit good) h)

module _ (m : Meter) (r : Ready m) where
  ready-is : m ≡ idle 4 m.attempts m.speed m.registers
  ready-is = idle-is m r.formed r.empty ∙ ap (λ (n : ℕ). idle n m.attempts m.speed m.registers) r.mode

  -- the state after the frames of a card, as one definition
  pub card-fed : (account : List ℕ) (es : List Entry) → good_account account ≡ true → rising (tables_in m.registers) 0 es ≡ true
      → Fed m (card_frames account es) (card_acknowledged m.speed es) (carded_to m account es)
  card-fed account es good h =
      subst (λ (x : Meter). Fed x (card_frames account es) (card_acknowledged m.speed es) (carded_to x account es)) (sym ready-is)
      (frames-all-fed m.attempts m.speed m.registers (rw r.mode at (fit_is m r.formed)) account es good h)

  card-left : (account : List ℕ) (es : List Entry) → rising (tables_in m.registers) 0 es ≡ true → CardDelivered m account es (card_acknowledged m.speed es) (carded_to m account es)
  unfolding good_table between
  card-left account es h =
      record {
        acknowledged = refl;
        account-held = refl;
        named = named-held (tables_in m.registers) m.registers.tables 0 es (tables-most (edition_of m)) h (long m r.formed).tables;
        others = λ n good other. others-kept (tables_in m.registers) m.registers.tables 0 es h n (leb-true 1 n (and_left (leb 1 n) (leb n (tables_in m.registers)) good)) other;
        kept = refl;
      }

  -- every accepted card is delivered
  pub card-delivery : (text : List ℕ) (p : IsCard (tables_in m.registers) text) (rooms : ℕ → ℕ) → ((i : ℕ) → reply_room ≤ rooms i)
      → CardDelivered m p.account p.entries (answered m rooms (card_frames p.account p.entries)) (left m rooms (card_frames p.account p.entries))
  card-delivery text p rooms room =
      let frames = card_frames p.account p.entries in
      let f = fed-in m rooms frames (card_acknowledged m.speed p.entries) (carded_to m p.account p.entries) room (card-fed p.account p.entries p.good-account p.good) in
      subst (λ (s : List Said). CardDelivered m p.account p.entries s (left m rooms frames)) (sym f.0)
      (subst (λ (x : Meter). CardDelivered m p.account p.entries (card_acknowledged m.speed p.entries) x) (sym f.1) (card-left p.account p.entries p.good))

-- what the reader writes is the frames
pub read-frames : (tables : ℕ) (text out : List ℕ) (number size place : ℕ) (after : List ℕ) (d : Done tables text out number size place after)
    → take size after ≡ card_frames d.is-card.account d.is-card.entries
unfolding holding
read-frames tables text out number size place after d =
    let frames = card_frames d.is-card.account d.is-card.entries in
    ap₂ take (d.long ∙ sym (length-card-frames tables text d.is-card)) d.written ∙ take-append_seam frames (drop (length frames) out)

-- the bytes that the reader wrote, in order, deliver the card
pub read-delivers : (m : Meter) → Ready m → (text out : List ℕ) (number size place : ℕ) (after : List ℕ) (d : Done (tables_in m.registers) text out number size place after) (rooms : ℕ → ℕ)
    → ((i : ℕ) → reply_room ≤ rooms i) → CardDelivered m d.is-card.account d.is-card.entries (answered m rooms (take size after)) (left m rooms (take size after))
read-delivers m r text out number size place after d rooms room =
    subst (λ (b : List ℕ). CardDelivered m d.is-card.account d.is-card.entries (answered m rooms b) (left m rooms b)) (sym (read-frames (tables_in m.registers) text out number size place after d))
    (card-delivery m r text d.is-card rooms room)
