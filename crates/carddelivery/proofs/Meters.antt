-- Two meters end to end: the card that is written from one, read and fed to another, makes account and tables equal. Assumes nothing.
use mathlib.Core.Path.{◌≡◌, refl, sym, ap, ap₂, subst, ◌∙◌}
use mathlib.Core.Bool.{true}
use mathlib.Core.List.{List}
use Prim.Native.Nat.{ℕ, ◌≤◌, ◌-◌, ◌*◌}
use native.Mathlib.Omega.{arith}
use borrow.Author.Tests.{le-ltb}
use lib.ListN.{length, take, drop, length-drop}
use lib.Seq.{take_at}
use Rattle.text.specs.Classes.{between}
use Rattle.line.specs.Runs.{every}
use Rattle.values.proofs.Editions.{tables-most}
use Rattle.values.specs.Edition.{tables_of}
use Rattle.text.specs.Writing.{holding}
use Rattle.state.specs.Sizes.{reply_room, row_length}
use Rattle.state.specs.declared.Meter.{Meter}
use Rattle.state.specs.WellFormed.{well_formed, tables_in, edition_of}
use Rattle.state.specs.Setting.{with_registers, with_account, with_tables}
use Rattle.state.proofs.Parts.{formed, formed-registers, long, edition-good, rows-unused}
use Rattle.post.specs.Grammar.{Entry, rising}
use Rattle.dialogue.specs.Feeding.{Said, answered, left}
use Rattle.dialogue.proofs.Feeding.{fed-in}
use Rattle.delivery.specs.Delivery.{Ready}
use Rattle.card.specs.Grammar.{card_text, IsCard}
use Rattle.card.specs.Frames.{card_frames, Done}
use Rattle.card.proofs.Fields.{one-card}
use Rattle.cardwriting.specs.Writing.{entries_from, card_of, written_to, card_length}
use Rattle.cardwriting.proofs.Writing.{length-card-of}
use Rattle.cardwriting.proofs.Back.{card-of-state, reads-back}
use Rattle.carddelivery.specs.Delivery.{card_acknowledged, carded_to, Copied}
use Rattle.carddelivery.proofs.Rows.{all-rows, zeros-same}
use Rattle.carddelivery.proofs.Delivery.{card-fed, read-frames}

-- the card of one is in the buffer that was written to
pub card-written : (m : Meter) (buf : List ℕ) → well_formed m ≡ true → card_length (tables_in m.registers) ≤ length buf
    → take (card_length (tables_in m.registers)) (written_to m buf) ≡ card_of (tables_in m.registers) m.registers
unfolding written_to card_of holding
card-written m buf w h =
    let l = long m w in
    let k = tables_in m.registers in
    let card = card_text m.registers.account (entries_from 0 k m.registers.tables) in
    let n : length card ≡ card_length k = length-card-of m.registers.account m.registers.tables k l.account (omega (arith, l.tables, tables-most (edition_of m))) in
    rw (edition-good m w, w, le-ltb (length buf) (card_length k) h) (take_at card (drop (length card) buf) (card_length k) n)

module _ (m n : Meter) (w : well_formed m ≡ true) (r : Ready n) (same : edition_of m ≡ edition_of n) where
  abbrev k : ℕ
  k = tables_in m.registers

  abbrev es : List Entry
  es = entries_from 0 k m.registers.tables

  unused : drop (k * row_length) n.registers.tables ≡ drop (k * row_length) m.registers.tables
  unused =
      let one = (formed-registers m.registers (formed m w).registers).tables in
      let two = (formed-registers n.registers (formed n r.formed).registers).tables in
      let other = subst (λ (e : ℕ). every (between 0 0) (drop (tables_of e * row_length) n.registers.tables) ≡ true) (sym same) (rows-unused (tables_in n.registers) n.registers.tables two) in
      zeros-same _ _ other (rows-unused k m.registers.tables one)
      (length-drop (k * row_length) n.registers.tables ∙ sym (length-drop (k * row_length) m.registers.tables ∙ ap (λ (l : ℕ). l - k * row_length) ((long m w).tables ∙ sym (long n r.formed).tables)))

  -- the other's state after the frames, with the account and the tables of the one
  carried : carded_to n m.registers.account es ≡ with_registers n (with_tables (with_account n.registers m.registers.account) m.registers.tables)
  carried =
      ap (λ (t : List ℕ). with_registers n (with_tables (with_account n.registers m.registers.account) t))
      (all-rows k n.registers.tables m.registers.tables ((long n r.formed).tables ∙ sym (long m w).tables) (omega (arith, (long m w).tables, tables-most (edition_of m))) unused)

  copied : (said : List Said) (after : Meter) → said ≡ card_acknowledged n.speed es → after ≡ carded_to n m.registers.account es → Copied m n said after
  copied said after s e =
      let q = e ∙ carried in
      record {
        acknowledged = s;
        account = ap (λ (x : Meter). x.registers.account) q;
        rows = ap (λ (x : Meter). x.registers.tables) q;
        kept = q;
      }

  -- however the card of the one was read
  pub two-meters : (p : IsCard k (card_of k m.registers)) (rooms : ℕ → ℕ) → ((i : ℕ) → reply_room ≤ rooms i)
      → Copied m n (answered n rooms (card_frames p.account p.entries)) (left n rooms (card_frames p.account p.entries))
  two-meters p rooms room =
      let f = formed-registers m.registers (formed m w).registers in
      let b = reads-back k m.registers (tables-most (edition_of m)) f.account f.tables p in
      let rise = subst (λ (e : ℕ). rising (tables_of e) 0 p.entries ≡ true) same p.good in
      let fed = fed-in n rooms (card_frames p.account p.entries) (card_acknowledged n.speed p.entries) (carded_to n p.account p.entries) room (card-fed n r p.account p.entries p.good-account rise) in
      copied (answered n rooms (card_frames p.account p.entries)) (left n rooms (card_frames p.account p.entries))
      (fed.0 ∙ ap (card_acknowledged n.speed) b.1) (fed.1 ∙ ap₂ (λ (a : List ℕ) (x : List Entry). carded_to n a x) b.0 b.1)

  -- written to a buffer, read from it into another, and the bytes of that fed
  pub end_to_end : (buf : List ℕ) → card_length k ≤ length buf → (out : List ℕ) (number size place : ℕ) (after : List ℕ)
      → Done k (take (card_length k) (written_to m buf)) out number size place after → (rooms : ℕ → ℕ) → ((i : ℕ) → reply_room ≤ rooms i)
      → Copied m n (answered n rooms (take size after)) (left n rooms (take size after))
  end_to_end buf h out number size place after d rooms room =
      subst (λ (b : List ℕ). Copied m n (answered n rooms b) (left n rooms b)) (sym (read-frames k (take (card_length k) (written_to m buf)) out number size place after d))
      (whole (take (card_length k) (written_to m buf)) (card-written m buf w h) d.is-card)
    where
      whole : (text : List ℕ) → text ≡ card_of k m.registers → (p : IsCard k text)
          → Copied m n (answered n rooms (card_frames p.account p.entries)) (left n rooms (card_frames p.account p.entries))
      whole text e p = two-meters (record { account = p.account; entries = p.entries; good-account = p.good-account; good = p.good; spelt = p.spelt ∙ e }) rooms room
