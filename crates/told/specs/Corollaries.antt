-- [13]: what a tester can quote of it.
use Rattle.std.specs.Prelude.{◌≡◌, Bool, true, false, cond, ◌&&◌, ◌||◌, List, [], ◌∷◌, ◌++◌, ℕ, eqb, replicate}
use Rattle.line.specs.Quoted.{char}
use Rattle.text.specs.Classes.{same_text}
use Rattle.clock.specs.declared.Clock.{Clock}
use Rattle.values.specs.Edition.{tables_of, row_length}
use Rattle.values.specs.Registers.{good_table}
use Rattle.state.specs.declared.Facts.{Facts}
use Rattle.state.specs.declared.Registers.{Registers}
use Rattle.state.specs.Making.{meter_of}
use Rattle.replies.specs.Shown.{row_of}
use Rattle.meter.specs.declared.Event.{Event}
use Rattle.meter.specs.declared.Event.TheVariants.{Character, Silence, Tick, Pulse, PowerUp, PulseOut, Unknown}
use Rattle.meter.specs.Life.{lived}
use Rattle.history.specs.Frames.{Write, clock, account, row, tries, password_in, write_in}
use Rattle.history.specs.Past.{happens}
use Rattle.history.specs.Standing.{Standing, standing, is_whole, frame_by}
use Rattle.told.specs.Claims.{happened, writes_told}

-- a byte that makes a frame whole, in mode 2, which has the right password
abbrev pub right_now : Facts → Standing → ℕ → Bool
right_now facts s b = (eqb s.mode 2 && is_whole s) && (tries (frame_by s b) && same_text (password_in (frame_by s b)) facts.password)

-- there was one in this past
unfoldable pub right_ever : Facts → List Event → Bool
right_ever facts [] = false
right_ever facts (Character b ∷ past) = right_now facts (standing facts past) b || right_ever facts past
right_ever facts (Silence ∷ past) = right_ever facts past
right_ever facts (Tick ∷ past) = right_ever facts past
right_ever facts (Pulse units ∷ past) = right_ever facts past
right_ever facts (PulseOut units ∷ past) = right_ever facts past
right_ever facts (PowerUp ∷ past) = right_ever facts past
right_ever facts (Unknown ∷ past) = right_ever facts past

-- account and tables of two meters are the same
pub record SameSettings (a b : Registers) : Type 0 where
  pub same-account : a.account ≡ b.account
  pub same_tables : a.tables ≡ b.tables

-- one event more: the account stays, or that event is the last byte of a K write, whole and told while programming mode stood, and the account is the one it says
pub data AccountAfter (facts : Facts) (account₀ : List ℕ) (clock₀ : Clock) (es : List (ℕ × Event)) (room : ℕ) (e : Event) : Type 0 where
  stays : (lived (meter_of facts account₀ clock₀) (es ++ ((room, e) ∷ []))).registers.account ≡ (lived (meter_of facts account₀ clock₀) es).registers.account
      → AccountAfter facts account₀ clock₀ es room e
  written : (b : ℕ) (a : List ℕ) → e ≡ Character b → happens facts.decimals room e ≡ true
      → (standing facts (happened facts es)).mode ≡ 4 → is_whole (standing facts (happened facts es)) ≡ true
      → write_in (tables_of facts.edition) (frame_by (standing facts (happened facts es)) b) ≡ account a ∷ []
      → (lived (meter_of facts account₀ clock₀) (es ++ ((room, e) ∷ []))).registers.account ≡ a
      → AccountAfter facts account₀ clock₀ es room e

-- the last row that was told of a table, or the factory's
unfoldable pub row_told : ℕ → List Write → List ℕ
row_told n [] = replicate row_length (char "1")
row_told n (row k r ∷ ws) = cond (eqb k n) r (row_told n ws)
row_told n (clock c ∷ ws) = row_told n ws
row_told n (account a ∷ ws) = row_told n ws

pub record Corollaries (facts : Facts) (account₀ : List ℕ) (clock₀ : Clock) : Type 0 where
  -- without a right password account and tables are the factory's
  pub no-password : (es : List (ℕ × Event)) → right_ever facts (happened facts es) ≡ false
      → SameSettings (lived (meter_of facts account₀ clock₀) es).registers (meter_of facts account₀ clock₀).registers
  -- an account changes only by a K write in programming mode
  pub only-by-write : (es : List (ℕ × Event)) (room : ℕ) (e : Event) → AccountAfter facts account₀ clock₀ es room e
  -- the same writes told leave the same account and the same tables
  pub same_writes : (es es' : List (ℕ × Event)) → writes_told facts es ≡ writes_told facts es'
      → SameSettings (lived (meter_of facts account₀ clock₀) es).registers (lived (meter_of facts account₀ clock₀) es').registers
  -- each table holds the last row that was told of it, or the factory's
  pub last-rows : (es : List (ℕ × Event)) (n : ℕ) → good_table (tables_of facts.edition) n ≡ true
      → row_of (lived (meter_of facts account₀ clock₀) es).registers.tables n ≡ row_told n (writes_told facts es)
