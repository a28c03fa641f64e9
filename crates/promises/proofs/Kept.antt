-- What a character can change. Only an accepted W1 changes the clock, the account or the tables, in programming mode, and then only that
-- register, to what the frame tells; `/C!` closes a period; any other answer changes no register. One walk over the verdicts (`verdict-all`). Assumes nothing.
use mathlib.Core.Path.{◌≡◌, refl, sym, ap}
use mathlib.Core.Bool.{Bool, true, false, not, ◌||◌}
use mathlib.Core.List.{List}
use Prim.Native.Nat.{ℕ, ◌-◌, ◌*◌}
use lib.Dec.{eqb, ltb}
use borrow.Author.Tests.{eqb-true, not-true}
use Rattle.line.proofs.Runs.{and_left, and_right}
use Rattle.line.specs.Characters.{damaged_at}
use Rattle.text.specs.Classes.{same_text}
use Rattle.text.specs.Writing.{stored}
use Rattle.text.proofs.Matching.{same-is}
use Rattle.values.specs.declared.TableNo.{TableNo}
use Rattle.values.specs.Registers.{good_table}
use Rattle.state.specs.Sizes.{reply_room}
use Rattle.state.specs.declared.Registers.{Registers}
use Rattle.values.specs.Edition.{is_edition}
use Rattle.state.specs.declared.Meter.{Meter}
use Rattle.state.specs.Link.{link_of, is_wired}
use Rattle.state.specs.WellFormed.{family_of, well_formed, marked, tables_in, edition_of}
use Rattle.state.specs.Setting.{with_account, with_tables, with_row}
use Rattle.receiving.specs.declared.Hearing.{Hearing}
use Rattle.receiving.specs.declared.Hearing.TheVariants.{Drop, Hold, Restart, Empty, Line, Confirm, Frame, TooLong}
use Rattle.receiving.specs.Hearing.{hearing}
use Rattle.receiving.specs.Receivers.{held_text, last_held, hurt_place}
use Rattle.deciding.specs.Verdicts.{Verdict}
use Rattle.deciding.specs.Verdict.{verdict}
use Rattle.meter.specs.Outcomes.{Outcome, at_place}
use Rattle.meter.specs.Link.{closes}
use Rattle.meter.specs.SignOn.{signs_on_by, closes_by, wants_block, wants_periods, wants_program}
use Rattle.meter.specs.Acting.{password_given, tried, acted}
use Rattle.meter.specs.Character.{symbol, line_ended, confirmed, heard, taken, character}
use Rattle.promises.specs.Writes.{Written, Called, Kept, same, clock, account, table, closed}
use Rattle.promises.proofs.Choices as choice
use Rattle.promises.proofs.Lines.{line-is}
use Rattle.promises.proofs.Pieces.{account-told, row_told}
use Rattle.promises.proofs.Verdicts.{Told, Known, verdict-all}

module _ (m : Meter) (b : ℕ) where
  tried-kept : Kept m b (tried m)
  unfolding tried
  tried-kept =
      choice.either (Kept m b) (eqb m.attempts 3) (same refl)
      (choice.either (Kept m b) (same_text (password_given m) m.registers.facts.password) (same refl) (same refl))

  -- a place is no register
  placed : (o : Outcome) (place : ℕ) → Kept m b o → Kept m b (at_place o place)
  placed o place (same e) = same e
  placed o place (clock c w i r n e) = clock c w i r n e
  placed o place (account w r n e) = account w r n e
  placed o place (table t w i g r n e) = table t w i g r n e
  placed o place (closed w n e) = closed w n e

  -- the verdict on the frame that this byte completes
  abbrev decision : Verdict
  decision = verdict (tables_in m.registers) (family_of m) m.mode (held_text m.receiver) (marked m.receiver || damaged_at b) (symbol b)

  frame-kept : hearing m.mode m.receiver.count (last_held m.receiver) (symbol b) ≡ Frame → Kept m b (acted m decision)
  unfolding acted
  frame-kept f =
      verdict-all (λ (v : Verdict). decision ≡ v → Kept m b (acted m v)) (tables_in m.registers) (family_of m) m.mode (held_text m.receiver) (marked m.receiver || damaged_at b) (symbol b)
      (record {
        refuse = λ n k e. same refl;
        leave = λ e. same refl;
        enter = λ k e. same refl;
        password = λ k w e. tried-kept;
        read = λ a g e. same refl;
        write = λ k w.
            record {
              clock = λ c i r e. clock c (record { programming = k; completed = f; started = w; decided = e }) i r refl refl;
              account = λ r e.
                  account (record { programming = k; completed = f; started = w; decided = e }) r refl
                  (ap (with_account m.registers) (sym (account-told m.receiver.count m.receiver.held r)));
              table = λ t i g r e.
                  choice.either (Kept m b) (good_table (tables_in m.registers) t.0)
                  (table t (record { programming = k; completed = f; started = w; decided = e }) i g r refl
                  (ap (λ (x : List ℕ). with_tables m.registers (with_row m.registers.tables t.0 x)) (sym (row_told m.receiver.count m.receiver.held r))))
                  (same refl);
              wrong = λ e. same refl;
            };
      })
      refl

  line_kept : hearing m.mode m.receiver.count (last_held m.receiver) (symbol b) ≡ Line → Kept m b (line_ended m)
  unfolding line_ended closes
  line_kept f =
      choice.told (Kept m b) (marked m.receiver) (λ e. same refl)
      (λ u.
      choice.either (Kept m b) (signs_on_by (link_of m) (held_text m.receiver) m.registers.facts.serial) (same refl)
      (choice.given (Kept m b) (closes_by (link_of m) (held_text m.receiver))
      (λ e.
      closed (record {
        listening = eqb-true m.mode 0 (line-is m.mode m.receiver.count (last_held m.receiver) (symbol b) f).0;
        completed = f;
        unmarked = u;
        optical = not-true (is_wired (link_of m)) (and_left (not (is_wired (link_of m))) _ e);
        said = same-is _ _ (and_right (not (is_wired (link_of m))) _ e);
      }) refl refl)
      (same refl)))

  confirmed-kept : (c : ℕ) (d : Bool) → Kept m b (confirmed m c d)
  unfolding confirmed
  confirmed-kept c d =
      choice.either (Kept m b) (marked m.receiver || d) (same refl)
      (choice.either (Kept m b) (wants_block (link_of m) (held_text m.receiver) c) (same refl)
      (choice.either (Kept m b) (wants_periods (link_of m) (held_text m.receiver) c) (same refl)
      (choice.either (Kept m b) (wants_program (link_of m) (held_text m.receiver) c) (same refl) (same refl))))

  heard-kept : (h : Hearing) → hearing m.mode m.receiver.count (last_held m.receiver) (symbol b) ≡ h → Kept m b (heard m (symbol b) (damaged_at b) h)
  unfolding heard
  heard-kept Drop e = same refl
  heard-kept Hold e = same refl
  heard-kept Restart e = same refl
  heard-kept Empty e = same refl
  heard-kept Line e = line_kept e
  heard-kept Confirm e = confirmed-kept (symbol b) (damaged_at b)
  heard-kept Frame e = placed (acted m decision) (hurt_place m.receiver (damaged_at b)) (frame-kept e)
  heard-kept TooLong e = same refl

  -- only an accepted W1 changes the clock, the account or the tables by a character, and then only that register; only `/C!` closes a period
  pub only-writes : (room : ℕ) → Kept m b (character m room b)
  unfolding character taken
  only-writes room =
      choice.either (Kept m b) (is_edition (edition_of m))
      (choice.either (Kept m b) (ltb room reply_room) (same refl)
      (choice.either (Kept m b) (well_formed m) (heard-kept (hearing m.mode m.receiver.count (last_held m.receiver) (symbol b)) refl) (same refl)))
      (same refl)

  -- an answer other than 1 changes no register
  pub refused-keeps : (room : ℕ) → ((character m room b).number ≡ 1 → ⊥) → (character m room b).next.registers ≡ m.registers
  refused-keeps room other = take_out (only-writes room)
    where
      take_out : Kept m b (character m room b) → (character m room b).next.registers ≡ m.registers
      take_out (same e) = e
      take_out (clock c w i r n e) = absurd (other n)
      take_out (account w r n e) = absurd (other n)
      take_out (table t w i g r n e) = absurd (other n)
      take_out (closed w n e) = absurd (other n)
