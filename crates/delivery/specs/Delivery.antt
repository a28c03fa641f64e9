-- Demand 3: what a delivered post leaves.
use Rattle.std.specs.Prelude.{◌≡◌, ◌⊎◌, true, ℕ, length}
use mathlib.Core.List.{List, Memᴰ}
use Rattle.text.specs.Beginnings.{Longest}
use Rattle.values.specs.Registers.{good_table}
use Rattle.state.specs.declared.Meter.{Meter}
use Rattle.state.specs.WellFormed.{well_formed, tables_in}
use Rattle.state.specs.Setting.{with_registers, with_tables}
use Rattle.replies.specs.Shown.{row_of}
use Rattle.post.specs.Grammar.{Entry, IsPost}
use Rattle.export.specs.Frames.{frames_of}
use Rattle.dialogue.specs.Feeding.{Said, answered, left, full}
use Rattle.delivery.specs.Acknowledged.{acknowledgements, acknowledged_once}

-- well-formed, in programming mode, at either speed, with an empty receiver
pub record Ready (m : Meter) : Type 0 where
  pub formed : well_formed m ≡ true
  pub mode : m.mode ≡ 4
  pub empty : m.receiver.count ≡ 0

-- each command is acknowledged once, at the meter's speed; each named table holds its posted row; every other table, and every other part of the state, is as before
pub record Delivered (m : Meter) (es : List Entry) (said : List Said) (after : Meter) : Type 0 where
  pub acknowledged : said ≡ acknowledged_once m.speed es
  pub named : (e : Entry) → Memᴰ e es → row_of after.registers.tables e.number ≡ e.row
  pub others : (n : ℕ) → good_table (tables_in m.registers) n ≡ true → ((e : Entry) → Memᴰ e es → e.number ≡ n → ⊥)
      → row_of after.registers.tables n ≡ row_of m.registers.tables n
  pub kept : after ≡ with_registers m (with_tables m.registers after.registers.tables)

-- number 1: a post for the meter's edition, whose frames were fed; to a meter that is ready it is delivered, with one acknowledgement a line
pub record Posted (m : Meter) (text : List ℕ) (number place acknowledged : ℕ) (next : Meter) : Type 0 where
  pub done : number ≡ 1
  pub is-post : IsPost (tables_in m.registers) text
  pub no_place : place ≡ 0
  pub counted : acknowledged ≡ acknowledgements (answered m full (frames_of is-post.entries))
  pub fed : next ≡ left m full (frames_of is-post.entries)
  pub each : Ready m → acknowledged ≡ length is-post.entries
  pub delivered : Ready m → Delivered m is-post.entries (answered m full (frames_of is-post.entries)) next

-- number 20: no post; the meter is as it was
pub record Unposted (m : Meter) (text : List ℕ) (number place acknowledged : ℕ) (next : Meter) : Type 0 where
  pub refused : number ≡ 20
  pub no-post : IsPost (tables_in m.registers) text → ⊥
  pub longest : Longest (IsPost (tables_in m.registers)) text place
  pub none : acknowledged ≡ 0
  pub kept : next ≡ m

unfoldable pub DeliveredAs : Meter → List ℕ → ℕ → ℕ → ℕ → Meter → Type 0
DeliveredAs m text number place acknowledged next =
    Posted m text number place acknowledged next ⊎ Unposted m text number place acknowledged next
