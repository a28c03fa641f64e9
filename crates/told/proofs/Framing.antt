-- A byte in a session. Assumes nothing.
use mathlib.Core.Path.{◌≡◌, refl, sym, ap, ◌∙◌}
use mathlib.Core.Bool.{Bool, true, false, cond, not, ◌&&◌, ◌||◌, and-true, and-false}
use mathlib.Core.List.{List, [], ◌∷◌, ◌++◌, map}
use Prim.Native.Nat.{ℕ, ◌+◌, ◌-◌, ◌<◌}
use native.Mathlib.Omega.{arith}
use borrow.Author.Tests.{leb-true, leb-false, eqb-true, eqb-false}
use lib.Dec.{eqb, leb}
use lib.ListN.{length, get_or, take, drop}
use Rattle.line.specs.Characters.{damaged_at, seven, undamaged_all}
use Rattle.line.specs.Quoted.{chars}
use Rattle.line.proofs.Runs.{and_left, and_right}
use Rattle.text.specs.Classes.{same_text, is_printable, between}
use Rattle.text.specs.Layout.{fits}
use Rattle.text.proofs.Matching.{same-is}
use Rattle.values.proofs.Fields.{fits-long}
use Rattle.values.proofs.Editions.{tables-most}
use Rattle.frames.specs.Frames.{closed, frame_of, bare_frame}
use Rattle.frames.specs.Session.{enter_data}
use Rattle.state.specs.declared.Receiver.{Receiver}
use Rattle.state.specs.declared.Registers.{Registers}
use Rattle.state.specs.declared.Meter.{Meter}
use Rattle.state.specs.Link.{is_wired}
use Rattle.state.specs.WellFormed.{tables_in, family_in}
use Rattle.state.specs.Making.{empty_receiver}
use Rattle.state.specs.Setting.{meter_in, in_mode, with_attempts, with_clock, with_account, with_tables, with_row}
use Rattle.receiving.specs.declared.Hearing.{Hearing}
use Rattle.receiving.specs.declared.Hearing.TheVariants.{Drop, Hold, Restart, Frame, TooLong}
use Rattle.receiving.specs.Hearing.{framing, hearing}
use Rattle.receiving.specs.Receivers.{kept_receiver, restarted_receiver}
use Rattle.deciding.specs.Verdicts.{Verdict, Refuse, Enter, Password}
use Rattle.deciding.specs.Shape.{content}
use Rattle.deciding.specs.Telling.{inner}
use Rattle.deciding.specs.Telling as telling
use Rattle.deciding.specs.Asking.{asked}
use Rattle.deciding.specs.Verdict.{entry, framed_verdict, verdict}
use Rattle.meter.specs.Link.{after_refusal}
use Rattle.meter.specs.Outcomes.{nak, ack}
use Rattle.meter.specs.Acting.{password_given, tried, acted}
use Rattle.meter.specs.Character.{symbol, heard, taken}
use Rattle.promises.proofs.Pieces.{account-told, row_told, password-brought}
use Rattle.whole.specs.Gathering.{filled}
use Rattle.whole.proofs.Filled.{one_more}
use Rattle.history.specs.Saying.{carries, says, since, ends_with}
use Rattle.history.specs.Frames.{data_in, is_frame, leaves, enters, tries, password_in, write_of, write_in, some_write, is_ask, asks, is_taken}
use Rattle.history.specs.Standing.{Standing, standing_as, anew, said_more, opened, refused_in}
use Rattle.history.specs.Standing as told
use Rattle.history.specs.Deeds.{Deed, wrote_all, by_byte}
use Rattle.history.proofs.Saying.{more, since-snoc}
use Rattle.told.specs.Doing.{written, done, done_all}
use Rattle.told.proofs.Holding.{untrue, Follows, fresh, symbol-carries, ends_is, none_is, more-some, restarts}
use Rattle.told.proofs.Frames.{Refused, refused, Asks, asks-it, asks_nothing, asked-asks, held, mark, frame, data_is, frame-unmarked, framed-decided, leaves-decided, other-decided}
use Rattle.told.proofs.Writes.{Tells, the-clock, the-account, the_row, nothing, told-tells, clock-written, account-written, row_written, none_written}

-- a mode begins, or a frame is over
begins : (mode failed speed : ℕ) (g : Registers) → Follows (standing_as mode failed []) g (meter_in mode failed speed empty_receiver g)
begins mode failed speed g = record { speed = speed; is = rw (fresh mode) }

or-false : (p : Bool) → (p || false) ≡ p
or-false true = refl
or-false false = refl

-- ---- one frame is not another: by its first letter

letter : List ℕ → ℕ
letter bytes = get_or (map seven bytes) 1 0

frame-letter : (bytes : List ℕ) (x y : ℕ) → is_frame (x ∷ y ∷ []) bytes ≡ true → letter bytes ≡ x
unfolding letter is_frame says frame_of closed
frame-letter bytes x y h =
    let said = and_left (undamaged_all bytes && same_text (map seven bytes) (frame_of (x ∷ y ∷ []) (data_in bytes))) _ h in
    ap (λ (l : List ℕ). get_or l 1 0) (same-is (map seven bytes) (frame_of (x ∷ y ∷ []) (data_in bytes)) (and_right (undamaged_all bytes) _ said))

leave-letter : (bytes : List ℕ) → leaves bytes ≡ true → letter bytes ≡ 66
unfolding letter leaves says bare_frame closed
leave-letter bytes h = ap (λ (l : List ℕ). get_or l 1 0) (same-is (map seven bytes) (bare_frame (66 ∷ 48 ∷ [])) (and_right (undamaged_all bytes) _ h))

other-letter : (p : Bool) (n x : ℕ) → (p ≡ true → n ≡ x) → (n ≡ x → ⊥) → p ≡ false
other-letter true n x f k = absurd (k (f refl))
other-letter false n x f k = refl

no-frame : (bytes : List ℕ) (x y : ℕ) → (letter bytes ≡ x → ⊥) → is_frame (x ∷ y ∷ []) bytes ≡ false
no-frame bytes x y k = other-letter (is_frame (x ∷ y ∷ []) bytes) (letter bytes) x (frame-letter bytes x y) k

no-leave : (bytes : List ℕ) → (letter bytes ≡ 66 → ⊥) → leaves bytes ≡ false
no-leave bytes k = other-letter (leaves bytes) (letter bytes) 66 (leave-letter bytes) k

no-entry : (bytes : List ℕ) → is_frame (80 ∷ 49 ∷ []) bytes ≡ false → (enters bytes ≡ false) × (tries bytes ≡ false)
unfolding enters tries
no-entry bytes e = (rw e, rw e)

-- ---- a frame in mode 2

module _ (failed speed : ℕ) (said run : List ℕ) (g : Registers) (b : ℕ) where
  abbrev s2 : Standing
  s2 = standing_as 2 failed said

  abbrev m2 : Meter
  m2 = meter_in 2 failed speed (filled run) g

  abbrev f2 : List ℕ
  f2 = frame run b

  abbrev Goal2 : Standing → Verdict → Type 0
  Goal2 t v = Follows t g (acted m2 v).next

  -- on either link a refusal ends mode 2
  falls : after_refusal g.facts.link 2 ≡ 0
  unfolding after_refusal
  falls = go (is_wired g.facts.link)
    where
      go : (w : Bool) → ◌≡◌ {A = ℕ} (cond (w || true) 0 2) 0
      go true = refl
      go false = refl

  refused-2 : (n : ℕ) → Goal2 (anew s2 0) (Refuse n)
  unfolding acted
  refused-2 n = rw falls (begins 0 failed _ g)

  idle-2 : (v : Verdict) → Refused v → Goal2 (anew s2 0) v
  idle-2 v (refused n) = refused-2 n

  password-2 : is_frame (80 ∷ 49 ∷ []) f2 ≡ true → fits (chars "(########)") (content (held run b)) ≡ true → password_in f2 ≡ password_given m2
  password-2 e k =
      let d = content (held run b) in
      let n : length d ≡ 10 = fits-long (chars "(########)") d k in
      let z : 8 ≡ length d - 2 = omega (arith, n) in
      ap (λ (l : List ℕ). take 8 (drop 1 l)) (data_is run b (frame-unmarked run b (80 ∷ 49 ∷ []) e)) ∙ ap (λ (i : ℕ). take i (drop 1 d)) z
      ∙ password-brought (filled run).count (filled run).held n

  tried-2 : (p : List ℕ) → p ≡ password_given m2 → Follows (told.password_said g.facts s2 p) g (tried m2).next
  unfolding tried
  tried-2 p e = rw e (go (eqb failed 3) (same_text (password_given m2) g.facts.password))
    where
      go : (x y : Bool) → Follows (cond x (anew s2 0) (cond y (standing_as 4 0 []) (standing_as 0 (failed + 1) []))) g
          (cond x (nak 11 m2) (cond y (ack speed (in_mode (with_attempts m2 0) 4)) (nak 10 (with_attempts m2 (failed + 1))))).next
      go true y = rw falls (begins 0 failed _ g)
      go false true = begins 4 0 speed g
      go false false = rw falls (begins 0 (failed + 1) _ g)

  entry-2 : is_frame (80 ∷ 49 ∷ []) f2 ≡ true → Goal2 (told.entered g.facts s2 f2) (entry (content (held run b)))
  unfolding entry enters tries enter_data acted
  entry-2 e =
      let d = content (held run b) in
      rw (e, data_is run b (frame-unmarked run b (80 ∷ 49 ∷ []) e)) (go (same_text d (chars "()")) (fits (chars "(########)") d) refl)
    where
      go : (x y : Bool) → fits (chars "(########)") (content (held run b)) ≡ y
          → Goal2 (cond x (anew s2 3) (cond y (told.password_said g.facts s2 (take 8 (drop 1 (content (held run b))))) (anew s2 0))) (cond x Enter (cond y Password (Refuse 9)))
      go true y k = begins 3 failed speed g
      go false true k = tried-2 _ (ap (λ (l : List ℕ). take 8 (drop 1 l)) (sym (data_is run b (frame-unmarked run b (80 ∷ 49 ∷ []) e))) ∙ password-2 e k)
      go false false k = refused-2 9

  abbrev decided2 : Verdict
  decided2 = verdict (tables_in g) (family_in g) 2 (held run b) (mark run b) (symbol b)

  frame-2 : Goal2 (told.entered g.facts s2 f2) decided2
  frame-2 = go (leaves f2) refl (is_frame (80 ∷ 49 ∷ []) f2) refl (is_frame (82 ∷ 49 ∷ []) f2) refl (is_frame (87 ∷ 49 ∷ []) f2) refl
    where
      no_more : is_frame (80 ∷ 49 ∷ []) f2 ≡ false → told.entered g.facts s2 f2 ≡ anew s2 0
      no_more e = let n = no-entry f2 e in rw (n.0, n.1)

      go : (l : Bool) → leaves f2 ≡ l → (p : Bool) → is_frame (80 ∷ 49 ∷ []) f2 ≡ p → (r : Bool) → is_frame (82 ∷ 49 ∷ []) f2 ≡ r → (w : Bool) → is_frame (87 ∷ 49 ∷ []) f2 ≡ w
          → Goal2 (told.entered g.facts s2 f2) decided2
      go true e true f r j w k = absurd (omega (arith, leave-letter f2 e, frame-letter f2 80 49 f))
      go true e false f r j w k = rw (no_more f, leaves-decided run b (tables_in g) (family_in g) 2 refl e) (unfold acted in (begins 0 failed _ g))
      go false e true f r j w k = rw (framed-decided run b (tables_in g) (family_in g) 2 80 49 (unfold is_printable between in refl) (unfold is_printable between in refl) f) (unfold framed_verdict in (entry-2 f))
      go false e false f true j w k =
          rw (no_more f, framed-decided run b (tables_in g) (family_in g) 2 82 49 (unfold is_printable between in refl) (unfold is_printable between in refl) j) (unfold framed_verdict in (refused-2 8))
      go false e false f false j true k =
          rw (no_more f, framed-decided run b (tables_in g) (family_in g) 2 87 49 (unfold is_printable between in refl) (unfold is_printable between in refl) k) (unfold framed_verdict in (refused-2 8))
      go false e false f false j false k = rw (no_more f) (idle-2 decided2 (other-decided run b (tables_in g) (family_in g) 2 e f j k))

-- ---- a frame in modes 3 and 4

module _ (mode failed speed : ℕ) (said run : List ℕ) (g : Registers) (b : ℕ) (later : eqb mode 2 ≡ false) where
  abbrev s3 : Standing
  s3 = standing_as mode failed said

  abbrev m3 : Meter
  m3 = meter_in mode failed speed (filled run) g

  abbrev f3 : List ℕ
  f3 = frame run b

  abbrev Goal3 : Standing → List Deed → Verdict → Type 0
  Goal3 t ds v = Follows t (done_all ds g) (acted m3 v).next

  refused-3 : (n : ℕ) → Goal3 (anew s3 (refused_in g.facts mode)) [] (Refuse n)
  unfolding acted after_refusal refused_in done_all
  refused-3 n = begins (cond (is_wired g.facts.link || eqb mode 2) 0 mode) failed _ g

  idle-3 : (v : Verdict) → Refused v → Goal3 (anew s3 (refused_in g.facts mode)) [] v
  idle-3 v (refused n) = refused-3 n

  -- where a frame leads that is taken, or refused
  abbrev to3 : Bool → Standing
  to3 taken = cond taken (anew s3 mode) (anew s3 (refused_in g.facts mode))

  -- the data of a question
  ask-3 : Goal3 (to3 (is_ask (tables_in g) (family_in g) (content (held run b)))) [] (asked (tables_in g) (family_in g) (content (held run b)))
  unfolding acted done_all
  ask-3 = go (asked (tables_in g) (family_in g) (content (held run b))) (asked-asks (tables_in g) (family_in g) (content (held run b)))
    where
      go : (v : Verdict) → Asks (tables_in g) (family_in g) (content (held run b)) v → Goal3 (to3 (is_ask (tables_in g) (family_in g) (content (held run b)))) [] v
      go v (asks-it a e) = rw e (begins mode failed speed g)
      go v (asks_nothing e) = rw e (refused-3 9)

  -- the data of a write
  write-3 : Goal3 (to3 (some_write (write_of (tables_in g) (content (held run b))))) (wrote_all (write_of (tables_in g) (content (held run b)))) (telling.told (tables_in g) (content (held run b)))
  unfolding acted wrote_all done_all done written some_write
  write-3 = go (telling.told (tables_in g) d) refl (told-tells (tables_in g) d)
    where
      d : List ℕ
      d = content (held run b)

      few : tables_in g < 100
      few = omega (arith, tables-most g.facts.edition)

      go : (v : Verdict) → telling.told (tables_in g) d ≡ v → Tells (tables_in g) d v → Goal3 (to3 (some_write (write_of (tables_in g) d))) (wrote_all (write_of (tables_in g) d)) v
      go v e (the-clock c real is) = rw (ap (write_of (tables_in g)) is ∙ clock-written (tables_in g) c real) (begins mode failed speed (with_clock g c))
      go v e (the-account good is) =
          rw (ap (write_of (tables_in g)) is ∙ account-written (tables_in g) (inner d) good, account-told (filled run).count (filled run).held good)
          (begins mode failed speed (with_account g (take 10 (drop 6 (filled run).held))))
      go v e (the_row t good-t good is) =
          rw (ap (write_of (tables_in g)) is ∙ row_written (tables_in g) t.0 (drop 3 (inner d)) few good-t good, good-t, row_told (filled run).count (filled run).held good)
          (begins mode failed speed (with_tables g (with_row g.tables t.0 (take 24 (drop 9 (filled run).held)))))
      go v e nothing = rw (none_written (tables_in g) d few e) (refused-3 9)

  abbrev decided3 : Verdict
  decided3 = verdict (tables_in g) (family_in g) mode (held run b) (mark run b) (symbol b)

  frame-3 : (leb 2 mode && leb mode 4) ≡ true → Goal3 (cond (leaves f3) (anew s3 0) (to3 (is_taken (tables_in g) (family_in g) mode f3))) (cond (eqb mode 4) (wrote_all (write_in (tables_in g) f3)) []) decided3
  unfolding write_in is_taken asks some_write
  frame-3 session = go (leaves f3) refl (is_frame (80 ∷ 49 ∷ []) f3) refl (is_frame (82 ∷ 49 ∷ []) f3) refl (is_frame (87 ∷ 49 ∷ []) f3) refl
    where
      printable : (is_printable 80 ≡ true) × ((is_printable 82 ≡ true) × ((is_printable 87 ≡ true) × (is_printable 49 ≡ true)))
      printable = unfold is_printable between in (refl, (refl, (refl, refl)))

      none : (p : Bool) → cond p (wrote_all []) [] ≡ []
      none true = unfold wrote_all in refl
      none false = refl

      -- in modes 3 and 4
      reads : (eqb mode 3 || eqb mode 4) ≡ true
      reads = three (eqb mode 3) refl (eqb mode 4) refl
        where
          three : (p : Bool) → eqb mode 3 ≡ p → (q : Bool) → eqb mode 4 ≡ q → (p || q) ≡ true
          three true e q f = refl
          three false e true f = refl
          three false e false f =
              absurd (omega (arith, eqb-false mode 2 later, eqb-false mode 3 e, eqb-false mode 4 f, leb-true 2 mode (and_left (leb 2 mode) _ session), leb-true mode 4 (and_right (leb 2 mode) _ session)))

      -- a write is taken in mode 4 alone
      told-3 : (p : Bool) → Goal3 (to3 (p && some_write (write_of (tables_in g) (content (held run b))))) (cond p (wrote_all (write_of (tables_in g) (content (held run b)))) []) (cond p (telling.told (tables_in g) (content (held run b))) (Refuse 8))
      told-3 true = write-3
      told-3 false = refused-3 8

      go : (l : Bool) → leaves f3 ≡ l → (p : Bool) → is_frame (80 ∷ 49 ∷ []) f3 ≡ p → (r : Bool) → is_frame (82 ∷ 49 ∷ []) f3 ≡ r → (w : Bool) → is_frame (87 ∷ 49 ∷ []) f3 ≡ w
          → Goal3 (cond l (anew s3 0) (to3 ((r && is_ask (tables_in g) (family_in g) (data_in f3)) || (eqb mode 4 && some_write (cond w (write_of (tables_in g) (data_in f3)) [])))))
          (cond (eqb mode 4) (wrote_all (cond w (write_of (tables_in g) (data_in f3)) [])) []) decided3
      go true e p f r j true k = absurd (omega (arith, leave-letter f3 e, frame-letter f3 87 49 k))
      go true e p f r j false k = rw (none (eqb mode 4), leaves-decided run b (tables_in g) (family_in g) mode session e) (unfold acted done_all in (begins 0 failed _ g))
      go false e true f true j w k = absurd (omega (arith, frame-letter f3 80 49 f, frame-letter f3 82 49 j))
      go false e true f false j true k = absurd (omega (arith, frame-letter f3 80 49 f, frame-letter f3 87 49 k))
      go false e true f false j false k =
          rw (none (eqb mode 4), and-false (eqb mode 4), framed-decided run b (tables_in g) (family_in g) mode 80 49 printable.0 printable.1.1.1 f) (unfold framed_verdict in (rw later (refused-3 8)))
      go false e false f true j true k = absurd (omega (arith, frame-letter f3 82 49 j, frame-letter f3 87 49 k))
      go false e false f true j false k =
          rw (none (eqb mode 4), and-false (eqb mode 4), or-false (is_ask (tables_in g) (family_in g) (data_in f3)), data_is run b (frame-unmarked run b (82 ∷ 49 ∷ []) j), framed-decided run b (tables_in g) (family_in g) mode 82 49 printable.1.0 printable.1.1.1 j)
          (unfold framed_verdict in (rw reads ask-3))
      go false e false f false j true k =
          rw (data_is run b (frame-unmarked run b (87 ∷ 49 ∷ []) k), framed-decided run b (tables_in g) (family_in g) mode 87 49 printable.1.1.0 printable.1.1.1 k)
          (unfold framed_verdict in (told-3 (eqb mode 4)))
      go false e false f false j false k = rw (none (eqb mode 4), and-false (eqb mode 4)) (idle-3 decided3 (other-decided run b (tables_in g) (family_in g) mode e f j k))

-- ---- a byte

module _ (mode failed speed : ℕ) (said : List ℕ) (g : Registers) (b : ℕ) (not0 : eqb mode 0 ≡ false) (not1 : eqb mode 1 ≡ false) (session : (leb 2 mode && leb mode 4) ≡ true) where
  abbrev s : Standing
  s = standing_as mode failed said

  abbrev run : List ℕ
  run = since 1 said

  abbrev m : Meter
  m = meter_in mode failed speed (filled run) g

  whole-framed : Follows (told.framed g.facts s (run ++ (b ∷ []))) (done_all (cond (eqb mode 4) (wrote_all (write_in (tables_in g) (run ++ (b ∷ [])))) []) g)
      (acted m (verdict (tables_in g) (family_in g) mode (held run b) (mark run b) (symbol b))).next
  whole-framed = go (eqb mode 2) refl
    where
      two : mode ≡ 2 → Follows (told.entered g.facts s (run ++ (b ∷ []))) (done_all (cond (eqb mode 4) (wrote_all (write_in (tables_in g) (run ++ (b ∷ [])))) []) g)
          (acted m (verdict (tables_in g) (family_in g) mode (held run b) (mark run b) (symbol b))).next
      two e = rw e (unfold done_all in (frame-2 failed speed said run g b))

      go : (p : Bool) → eqb mode 2 ≡ p → Follows (cond p (told.entered g.facts s (run ++ (b ∷ []))) (cond (leaves (run ++ (b ∷ []))) (anew s 0) (cond (is_taken (tables_in g) (family_in g) mode (run ++ (b ∷ []))) (anew s mode) (anew s (refused_in g.facts mode)))))
          (done_all (cond (eqb mode 4) (wrote_all (write_in (tables_in g) (run ++ (b ∷ [])))) []) g) (acted m (verdict (tables_in g) (family_in g) mode (held run b) (mark run b) (symbol b))).next
      go true e = two (eqb-true mode 2 e)
      go false e = frame-3 mode failed speed said run g b e session

  -- nothing is whole yet: the receiver holds what was said from the last SOH on
  stays : (r : Receiver) → r ≡ filled (since 1 (said ++ (b ∷ []))) → Follows (said_more s b) g (meter_in mode failed speed r g)
  stays r e = record { speed = speed; is = rw (not0, not1, e) }

  abbrev meant : Bool → Bool → Bool → Bool → Hearing
  meant w p q f = cond w Frame (cond p Restart (cond q Drop (cond f TooLong Hold)))

  pub session-step : Follows (told.in_session g.facts s b) (done_all (by_byte g.facts s b) g) (taken m b).next
  unfolding taken hearing framing heard opened done_all more refused_in after_refusal
  session-step = rw (not0, not1, ends_is run, symbol-carries 0 b) (go (ends_with 3 run) (carries 1 b) refl (eqb (length run) 0) refl (leb 63 (length run)) refl)
    where
      then : since 1 (said ++ (b ∷ [])) ≡ cond (carries 1 b) (b ∷ []) (more run b)
      then = since-snoc 1 said b

      go : (w p : Bool) → carries 1 b ≡ p → (q : Bool) → eqb (length run) 0 ≡ q → (f : Bool) → leb 63 (length run) ≡ f
          → Follows (cond w (told.framed g.facts s (run ++ (b ∷ []))) (cond (f && not p) (anew s (refused_in g.facts mode)) (said_more s b)))
          (done_all (cond (eqb mode 4 && w) (wrote_all (write_in (tables_in g) (run ++ (b ∷ [])))) []) g) (heard m (symbol b) (damaged_at b) (meant w p q f)).next
      go true p e q h f l = rw (and-true (eqb mode 4)) whole-framed
      go false true e q h f l = rw (and-false f, and-false (eqb mode 4)) (stays (restarted_receiver (symbol b)) (restarts 1 b e ∙ ap filled (sym (then ∙ rw e))))
      go false false e true h true l = untrue (ap (λ (x : List ℕ). leb 63 (length x)) (sym (none_is run h)) ∙ l)
      go false false e true h false l =
          let none = none_is run h in
          rw (and-false (eqb mode 4)) (stays (filled run) (ap filled (none ∙ sym (then ∙ rw (e, none)))))
      go false false e false h true l = rw (and-false (eqb mode 4)) (begins (cond (is_wired g.facts.link || eqb mode 2) 0 mode) failed _ g)
      go false false e false h false l =
          rw (and-false (eqb mode 4))
          (stays (kept_receiver (filled run) (symbol b) (damaged_at b)) (one_more run b (omega (arith, leb-false 63 (length run) l)) ∙ ap filled (sym (then ∙ rw e (more-some run b h)))))
