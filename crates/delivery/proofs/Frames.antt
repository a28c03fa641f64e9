-- The frames of a post, fed to a meter in programming mode: each is acknowledged at its last byte, and puts its row in. Assumes nothing.
use mathlib.Core.Path.{◌≡◌, refl, sym, subst}
use mathlib.Core.Bool.{Bool, true, false, cond, not, ◌&&◌}
use mathlib.Core.List.{List, [], ◌∷◌, ◌++◌}
use Prim.Native.Nat.{ℕ, suc, ◌-◌, ◌≤◌, ◌<◌}
use native.Mathlib.Omega.{arith}
use borrow.Author.Tests.{leb-true, leb-false, le-leb}
use lib.Dec.{leb}
use lib.ListN.{length, replicate}
use Rattle.line.proofs.Runs.{and_left, and_right, and_both}
use Rattle.text.specs.Classes.{between, matching, same_text}
use Rattle.values.specs.Registers.{good_row, good_table}
use Rattle.frames.specs.Frames.{frame_of, on_wire}
use Rattle.frames.specs.Commands.{W1, set_table}
use Rattle.frames.proofs.Table.{length-table-frame}
use Rattle.state.specs.declared.Meter.{Meter}
use Rattle.state.specs.declared.Registers.{Registers}
use Rattle.state.specs.Link.{is_wired}
use Rattle.state.specs.WellFormed.{tables_in}
use Rattle.state.proofs.Rows.{row-good}
use Rattle.state.proofs.Parts.{formed-registers, registers-good}
use Rattle.state.specs.Setting.{in_mode, with_tables, with_row}
use Rattle.post.specs.Grammar.{Entry, good_entry, rising}
use Rattle.post.proofs.Lines.{row-length}
use Rattle.post.proofs.Reading.{rising-number, rising-table, rising-rest, rising-row}
use Rattle.export.specs.Frames.{entry_frame, frames_of}
use Rattle.meter.specs.Link.{after_refusal}
use Rattle.commands.specs.Spoken.{write_table, good_fields, letters_of, data_of, spoken}
use Rattle.commands.specs.Messages.{command, text_of, good_message}
use Rattle.dialogue.specs.Messages.{allowed_at, allowed_in, obeyed, outcome_of}
use Rattle.dialogue.proofs.Feeding.{Fed, fed-none, fed-append}
use Rattle.dialogue.proofs.Held.{Fit, idle}
use Rattle.dialogue.proofs.Commands.{body_of, other-fed}
use Rattle.dialogue.proofs.Dialogue.{long-command, message-fed}
use Rattle.delivery.specs.Acknowledged.{nothing, acknowledgement, refusal, acknowledged_once, rows_after}
use Rattle.delivery.specs.Other.{answered_once, taken_of, all_own}

-- the registers with a row put in
abbrev pub row_in : Registers → ℕ → List ℕ → Registers
row_in g n row = with_tables g (with_row g.tables n row)

still-fit : (a s : ℕ) (g : Registers) (n : ℕ) (row : List ℕ) → Fit 4 a s g → good_table (tables_in g) n ≡ true → good_row row ≡ true → Fit 4 a s (row_in g n row)
still-fit a s g n row fit there good =
    let f = formed-registers g fit.registers in
    record {
      known = fit.known;
      attempts = fit.attempts;
      speed = fit.speed;
      registers =
          registers-good (row_in g n row)
          (record {
            facts = f.facts;
            account = f.account;
            clock = f.clock;
            counters = f.counters;
            exported = f.exported;
            tables = row-good (tables_in g) g.tables n row f.tables there good;
            archive = f.archive;
          });
    }

-- one frame: the head's command that sets the table
frame-fed : (a s : ℕ) (g : Registers) → Fit 4 a s g → (n : ℕ) (row : List ℕ) → good_table (tables_in g) n ≡ true → good_row row ≡ true
    → Fed (idle 4 a s g) (on_wire (frame_of W1 (set_table n row))) (replicate 35 (nothing s) ++ (acknowledgement s ∷ [])) (idle 4 a s (row_in g n row))
unfolding text_of spoken letters_of data_of good_message good_fields allowed_in allowed_at same_text matching outcome_of obeyed
frame-fed a s g fit n row good-n good =
    let long = length-table-frame n row (row-length row good) in
    let fed = message-fed 4 a s g (command (write_table n row)) fit (and_both (good_table (tables_in g) n) (good_row row) good-n good) refl in
    subst (λ (k : ℕ). Fed (idle 4 a s g) (on_wire (frame_of W1 (set_table n row))) (replicate k (nothing s) ++ (acknowledgement s ∷ [])) (idle 4 a s (row_in g n row))) {x = length (frame_of W1 (set_table n row)) - 1} {y = 35} (omega arith) fed

-- all the frames, in order
pub frames-fed : (a s : ℕ) (g : Registers) (above : ℕ) (es : List Entry) → Fit 4 a s g → rising (tables_in g) above es ≡ true
    → Fed (idle 4 a s g) (frames_of es) (acknowledged_once s es) (idle 4 a s (with_tables g (rows_after g.tables es)))
unfolding frames_of entry_frame acknowledged_once rows_after rising good_entry
frames-fed a s g above [] fit h = fed-none (idle 4 a s g)
frames-fed a s g above (e ∷ es) fit h =
    let good = rising-row (tables_in g) above e es h in
    let good-n = and_left (good_table (tables_in g) e.number) (good_row e.row) (and_left (good_entry (tables_in g) e) _ h) in
    let next = row_in g e.number e.row in
    fed-append (idle 4 a s g) (entry_frame e) (frames_of es) (replicate 35 (nothing s) ++ (acknowledgement s ∷ [])) (acknowledged_once s es) (idle 4 a s next)
    (idle 4 a s (with_tables g (rows_after g.tables (e ∷ es)))) (frame-fed a s g fit e.number e.row good-n good)
    (frames-fed a s next e.number es (still-fit a s g e.number e.row fit good-n good) (rising-rest (tables_in g) above e es h))

-- [3]: one frame that sets a table that the meter has not: refused, as its link rules
pub refused-fed : (a s : ℕ) (g : Registers) → Fit 4 a s g → (n : ℕ) (row : List ℕ) → 1 ≤ n → n < 100 → good_table (tables_in g) n ≡ false → good_row row ≡ true
    → Fed (idle 4 a s g) (on_wire (frame_of W1 (set_table n row))) (replicate 35 (nothing s) ++ (refusal g.facts.link s ∷ [])) (in_mode (idle 4 a s g) (after_refusal g.facts.link 4))
unfolding spoken letters_of data_of
refused-fed a s g fit n row low small none good =
    let long = length-table-frame n row (row-length row good) in
    let next = in_mode (idle 4 a s g) (after_refusal g.facts.link 4) in
    subst (λ (k : ℕ). Fed (idle 4 a s g) (on_wire (frame_of W1 (set_table n row))) (replicate k (nothing s) ++ (refusal g.facts.link s ∷ [])) next) {x = suc (suc (length (body_of (write_table n row))))} {y = 35} (omega (arith, long, long-command (write_table n row)))
    (other-fed a s g n row fit low small none good)

-- the meter after so much of a post: on the wired link a line that it has no table for has ended the session
abbrev ending : Bool → Bool → Meter → Meter
ending wired all m = cond (wired && not all) (in_mode m 0) m

-- what is left of a post behind a line of the last table
none-behind : (tables above : ℕ) (es : List Entry) → tables ≤ above → rising tables above es ≡ true → es ≡ []
none-behind tables above [] h g = refl
none-behind tables above (e ∷ es) h g = absurd (omega (arith, h, rising-number tables above e es g, rising-table tables above e es g))

-- one frame more, of a table that the meter has or has not
module _ (tables a s : ℕ) (wired : Bool) where
  abbrev Rest : Registers → List Entry → Type 0
  Rest g es = Fed (idle 4 a s g) (frames_of es) (answered_once g.facts.link (tables_in g) s es)
      (ending wired (all_own (tables_in g) es) (idle 4 a s (with_tables g (rows_after g.tables (taken_of (tables_in g) es)))))

  abbrev More : Registers → Entry → List Entry → Bool → Type 0
  More g e es b = Fed (idle 4 a s g) (entry_frame e ++ frames_of es) ((replicate 35 (nothing s) ++ (cond b (acknowledgement s) (refusal g.facts.link s) ∷ [])) ++ answered_once g.facts.link (tables_in g) s es)
      (ending wired (b && all_own (tables_in g) es) (idle 4 a s (with_tables g (rows_after g.tables (cond b (e ∷ taken_of (tables_in g) es) (taken_of (tables_in g) es))))))

  taken : (g : Registers) (e : Entry) (es : List Entry) → Fit 4 a s g → good_row e.row ≡ true → good_table (tables_in g) e.number ≡ true
      → (Fit 4 a s (row_in g e.number e.row) → Rest (row_in g e.number e.row) es) → More g e es true
  unfolding entry_frame rows_after
  taken g e es fit good there rest =
      let next = row_in g e.number e.row in
      fed-append (idle 4 a s g) (entry_frame e) (frames_of es) (replicate 35 (nothing s) ++ (acknowledgement s ∷ [])) (answered_once g.facts.link (tables_in g) s es) (idle 4 a s next)
      (ending wired (all_own (tables_in g) es) (idle 4 a s (with_tables g (rows_after g.tables (e ∷ taken_of (tables_in g) es))))) (frame-fed a s g fit e.number e.row there good)
      (rest (still-fit a s g e.number e.row fit there good))

-- on the optical link the meter goes on
refused-on : (tables a s : ℕ) (g : Registers) (e : Entry) (es : List Entry) → Fit 4 a s g → is_wired g.facts.link ≡ false → 1 ≤ e.number → e.number < 100 → good_row e.row ≡ true
    → good_table (tables_in g) e.number ≡ false → Rest tables a s false g es → More tables a s false g e es false
unfolding entry_frame after_refusal
refused-on tables a s g e es fit optical low small good none rest =
    fed-append (idle 4 a s g) (entry_frame e) (frames_of es) (replicate 35 (nothing s) ++ (refusal g.facts.link s ∷ [])) (answered_once g.facts.link (tables_in g) s es) (idle 4 a s g)
    (idle 4 a s (with_tables g (rows_after g.tables (taken_of (tables_in g) es)))) (rw optical at (refused-fed a s g fit e.number e.row low small none good)) rest

-- on the wired one it listens again, and the line was the last
refused-last : (tables a s : ℕ) (g : Registers) (e : Entry) → Fit 4 a s g → is_wired g.facts.link ≡ true → 1 ≤ e.number → e.number < 100 → good_row e.row ≡ true
    → good_table (tables_in g) e.number ≡ false → More tables a s true g e [] false
unfolding entry_frame frames_of after_refusal answered_once rows_after taken_of
refused-last tables a s g e fit wired low small good none =
    let next = in_mode (idle 4 a s g) 0 in
    fed-append (idle 4 a s g) (entry_frame e) [] (replicate 35 (nothing s) ++ (refusal g.facts.link s ∷ [])) [] next next
    (rw wired at (refused-fed a s g fit e.number e.row low small none good)) (fed-none next)

beyond : (own n : ℕ) → 1 ≤ n → good_table own n ≡ false → own < n
unfolding good_table between
beyond own n low none = leb-false n own (rw (le-leb 1 n low) at none)

one_more : (tables a s : ℕ) (wired : Bool) (g : Registers) (e : Entry) (es : List Entry) → Fit 4 a s g → is_wired g.facts.link ≡ wired → (wired ≡ true → tables ≤ suc (tables_in g))
    → 1 ≤ e.number → e.number < 100 → good_row e.row ≡ true → rising tables e.number es ≡ true
    → ((h : Registers) → Fit 4 a s h → is_wired h.facts.link ≡ wired → (wired ≡ true → tables ≤ suc (tables_in h)) → Rest tables a s wired h es)
    → (b : Bool) → good_table (tables_in g) e.number ≡ b → More tables a s wired g e es b
one_more tables a s wired g e es fit link last low small good rising-on rest true there =
    taken tables a s wired g e es fit good there (λ fits. rest (row_in g e.number e.row) fits link last)
one_more tables a s false g e es fit link last low small good rising-on rest false none =
    refused-on tables a s g e es fit link low small good none (rest g fit link last)
one_more tables a s true g e es fit link last low small good rising-on rest false none =
    let empty = none-behind tables e.number es (omega (arith, last refl, beyond (tables_in g) e.number low none)) rising-on in
    subst (λ (x : List Entry). More tables a s true g e x false) (sym empty) (refused-last tables a s g e fit link low small good none)

-- [3]: the frames of a post for meters of so many tables, fed to a meter of perhaps fewer, but one at most where it is wired
pub others-fed : (tables : ℕ) → tables < 100 → (a s : ℕ) (wired : Bool) (g : Registers) (above : ℕ) (es : List Entry) → Fit 4 a s g → is_wired g.facts.link ≡ wired → (wired ≡ true → tables ≤ suc (tables_in g)) → rising tables above es ≡ true
    → Rest tables a s wired g es
unfolding frames_of answered_once taken_of all_own rows_after rising good_entry good_table between
others-fed tables few a s true g above [] fit link last h = fed-none (idle 4 a s g)
others-fed tables few a s false g above [] fit link last h = fed-none (idle 4 a s g)
others-fed tables few a s wired g above (e ∷ es) fit link last h =
    let good-n = and_left (good_table tables e.number) (good_row e.row) (and_left (good_entry tables e) _ h) in
    let low = leb-true 1 e.number (and_left (leb 1 e.number) (leb e.number tables) good-n) in
    let high = leb-true e.number tables (and_right (leb 1 e.number) (leb e.number tables) good-n) in
    let on = rising-rest tables above e es h in
    one_more tables a s wired g e es fit link last low (omega (arith, high, few)) (rising-row tables above e es h) on
    (λ next fits there more. others-fed tables few a s wired next e.number es fits there more on) (good_table (tables_in g) e.number) refl
