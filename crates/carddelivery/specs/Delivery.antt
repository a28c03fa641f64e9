-- Demand 3 for cards, request [11]: what a delivered card leaves, with the account among the named parts; and two meters.
use Rattle.std.specs.Prelude.{◌≡◌, true, ℕ, replicate}
use mathlib.Core.List.{List, [], ◌∷◌, ◌++◌, Memᴰ}
use Rattle.state.specs.WellFormed.{tables_in}
use Rattle.values.specs.Registers.{good_table}
use Rattle.state.specs.declared.Meter.{Meter}
use Rattle.state.specs.Setting.{with_registers, with_account, with_tables}
use Rattle.replies.specs.Shown.{row_of}
use Rattle.post.specs.Grammar.{Entry}
use Rattle.dialogue.specs.Feeding.{Said}
use Rattle.delivery.specs.Acknowledged.{nothing, acknowledgement, acknowledged_once, rows_after}
use Rattle.cardwriting.specs.Writing.{entries_from}

-- the account's frame of 19 bytes, then a table's of 36 each: nothing at each byte but a frame's last, which is acknowledged
unfoldable pub card_acknowledged : ℕ → List Entry → List Said
card_acknowledged speed es = (replicate 18 (nothing speed) ++ (acknowledgement speed ∷ [])) ++ acknowledged_once speed es

-- only the account and the tables change
abbrev pub carded_to : Meter → List ℕ → List Entry → Meter
carded_to m account es = with_registers m (with_tables (with_account m.registers account) (rows_after m.registers.tables es))

-- each command is acknowledged once, at the meter's speed; the account is the card's; each named table holds its row; every other table, and every other part of the state, is as before
pub record CardDelivered (m : Meter) (account : List ℕ) (es : List Entry) (said : List Said) (after : Meter) : Type 0 where
  pub acknowledged : said ≡ card_acknowledged m.speed es
  pub account-held : after.registers.account ≡ account
  pub named : (e : Entry) → Memᴰ e es → row_of after.registers.tables e.number ≡ e.row
  pub others : (n : ℕ) → good_table (tables_in m.registers) n ≡ true → ((e : Entry) → Memᴰ e es → e.number ≡ n → ⊥)
      → row_of after.registers.tables n ≡ row_of m.registers.tables n
  pub kept : after ≡ with_registers m (with_tables (with_account m.registers account) after.registers.tables)

-- the card of one meter, delivered to another of its edition: account and tables are equal, and all else of the other is as before
pub record Copied (from to : Meter) (said : List Said) (after : Meter) : Type 0 where
  pub acknowledged : said ≡ card_acknowledged to.speed (entries_from 0 (tables_in from.registers) from.registers.tables)
  pub account : after.registers.account ≡ from.registers.account
  pub rows : after.registers.tables ≡ from.registers.tables
  pub kept : after ≡ with_registers to (with_tables (with_account to.registers from.registers.account) from.registers.tables)
