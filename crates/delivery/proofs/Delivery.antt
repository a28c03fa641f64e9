-- The delivery of a post, over all posts and all states: the frames of its entries fed to a meter that is ready, with rooms of 4,096 or more.
-- Assumes nothing.
use mathlib.Core.Path.{◌≡◌, refl, sym, ap, ap₂, subst, ◌∙◌}
use mathlib.Core.Bool.{true}
use mathlib.Core.List.{List, [], ◌∷◌, map}
use Prim.Native.Nat.{ℕ, ◌*◌, ◌≤◌}
use native.Mathlib.Omega.{arith}
use borrow.Author.Tests.{leb-true}
use lib.Dec.{leb}
use lib.ListN.{length, take, drop, length-append, length-map}
use lib.Seq.{take-append_seam}
use Rattle.line.specs.Characters.{sent}
use Rattle.line.proofs.Runs.{and_left}
use Rattle.text.specs.Classes.{between}
use Rattle.text.specs.Writing.{holding}
use Rattle.values.specs.Registers.{good_table}
use Rattle.state.specs.Sizes.{reply_room}
use Rattle.values.specs.Edition.{tables_of}
use Rattle.values.proofs.Editions.{tables-most, tables-least}
use Rattle.state.specs.declared.Meter.{Meter}
use Rattle.state.specs.Link.{link_of, is_wired}
use Rattle.state.specs.WellFormed.{tables_in, edition_of}
use Rattle.state.proofs.Parts.{long}
use Rattle.frames.specs.Frames.{frame_of}
use Rattle.frames.specs.Commands.{W1, set_table}
use Rattle.frames.proofs.Table.{length-table-frame}
use Rattle.post.specs.Grammar.{Entry, rising, IsPost}
use Rattle.post.proofs.Lines.{row-length}
use Rattle.post.proofs.Reading.{good-rising, rising-row, rising-rest}
use Rattle.export.specs.Frames.{entry_frame, frames_of, Done}
use Rattle.dialogue.specs.Feeding.{Said, answered, left}
use Rattle.dialogue.proofs.Feeding.{Fed, fed-in}
use Rattle.dialogue.proofs.Held.{Fit, idle, idle-is, fit_is}
use Rattle.delivery.specs.Acknowledged.{acknowledged_once, delivered_to}
use Rattle.delivery.specs.Other.{answered_once, left_by}
use Rattle.delivery.specs.Delivery.{Ready, Delivered}
use Rattle.delivery.proofs.Frames.{frames-fed, others-fed}
use Rattle.delivery.proofs.Rows.{others-kept, named-held}

module _ (m : Meter) (r : Ready m) where
  ready-is : m ≡ idle 4 m.attempts m.speed m.registers
  ready-is = idle-is m r.formed r.empty ∙ ap (λ (n : ℕ). idle n m.attempts m.speed m.registers) r.mode

  fit-four : Fit 4 m.attempts m.speed m.registers
  fit-four = rw r.mode at (fit_is m r.formed)

  -- the state after the frames of good entries, as one definition
  pub entries-fed : (es : List Entry) → rising (tables_in m.registers) 0 es ≡ true → Fed m (frames_of es) (acknowledged_once m.speed es) (delivered_to m es)
  entries-fed es h =
      subst (λ (x : Meter). Fed x (frames_of es) (acknowledged_once m.speed es) (delivered_to x es)) (sym ready-is)
      (frames-fed m.attempts m.speed m.registers 0 es fit-four h)

  entries-delivered : (es : List Entry) → rising (tables_in m.registers) 0 es ≡ true → Delivered m es (acknowledged_once m.speed es) (delivered_to m es)
  unfolding good_table between
  entries-delivered es h =
      record {
        acknowledged = refl;
        named = named-held (tables_in m.registers) m.registers.tables 0 es (tables-most (edition_of m)) h (long m r.formed).tables;
        others = λ n good other. others-kept (tables_in m.registers) m.registers.tables 0 es h n (leb-true 1 n (and_left (leb 1 n) (leb n (tables_in m.registers)) good)) other;
        kept = refl;
      }

  -- every accepted post is delivered
  pub delivery : (text : List ℕ) (p : IsPost (tables_in m.registers) text) (rooms : ℕ → ℕ) → ((i : ℕ) → reply_room ≤ rooms i)
      → Delivered m p.entries (answered m rooms (frames_of p.entries)) (left m rooms (frames_of p.entries))
  delivery text p rooms room =
      let es = p.entries in
      let h = good-rising (tables_in m.registers) es p.good in
      let f = fed-in m rooms (frames_of es) (acknowledged_once m.speed es) (delivered_to m es) room (entries-fed es h) in
      subst (λ (s : List Said). Delivered m es s (left m rooms (frames_of es))) (sym f.0)
      (subst (λ (x : Meter). Delivered m es (acknowledged_once m.speed es) x) (sym f.1) (entries-delivered es h))

  -- [3]: a post for meters of another edition: each line of a table that this meter has is acknowledged and taken, each other one is refused with
  -- 9, and nothing else changes, but that on the wired link the refusal ends the session. No edition has more than one table that another has not
  pub other-edition : (edition : ℕ) (text : List ℕ) (p : IsPost (tables_of edition) text) (rooms : ℕ → ℕ) → ((i : ℕ) → reply_room ≤ rooms i)
      → (answered m rooms (frames_of p.entries) ≡ answered_once (link_of m) (tables_in m.registers) m.speed p.entries)
      × (left m rooms (frames_of p.entries) ≡ left_by m p.entries)
  other-edition edition text p rooms room =
      let es = p.entries in
      let tables = tables_of edition in
      let said = answered_once (link_of m) (tables_in m.registers) m.speed es in
      fed-in m rooms (frames_of es) said (left_by m es) room
      (subst (λ (x : Meter). Fed x (frames_of es) said (left_by x es)) (sym ready-is)
      (others-fed tables (omega (arith, tables-most edition)) m.attempts m.speed (is_wired (link_of m)) m.registers 0 es fit-four refl
      (λ w. omega (arith, tables-most edition, tables-least (edition_of m))) (good-rising tables es p.good)))

length-frames : (tables above : ℕ) (es : List Entry) → rising tables above es ≡ true → length (frames_of es) ≡ 36 * length es
unfolding frames_of entry_frame
length-frames tables above [] h = refl
length-frames tables above (e ∷ es) h =
    let f = frame_of W1 (set_table e.number e.row) in
    omega (
      arith,
      length-append (map sent f) (frames_of es),
      length-map f sent,
      length-table-frame e.number e.row (row-length e.row (rising-row tables above e es h)),
      length-frames tables e.number es (rising-rest tables above e es h),
    )

-- what the export writes is the frames
pub exported-frames : (tables : ℕ) (text out : List ℕ) (number size place : ℕ) (after : List ℕ) (d : Done tables text out number size place after)
    → take size after ≡ frames_of d.is-post.entries
unfolding holding
exported-frames tables text out number size place after d =
    let es = d.is-post.entries in
    let n : size ≡ length (frames_of es) = d.long ∙ sym (length-frames tables 0 es (good-rising tables es d.is-post.good)) in
    ap₂ take n d.written ∙ take-append_seam (frames_of es) (drop (length (frames_of es)) out)

-- the exported bytes, in order, deliver the post
pub export-delivers : (m : Meter) → Ready m → (text out : List ℕ) (number size place : ℕ) (after : List ℕ) (d : Done (tables_in m.registers) text out number size place after) (rooms : ℕ → ℕ)
    → ((i : ℕ) → reply_room ≤ rooms i) → Delivered m d.is-post.entries (answered m rooms (take size after)) (left m rooms (take size after))
export-delivers m r text out number size place after d rooms room =
    subst (λ (b : List ℕ). Delivered m d.is-post.entries (answered m rooms b) (left m rooms b)) (sym (exported-frames (tables_in m.registers) text out number size place after d))
    (delivery m r text d.is-post rooms room)
