-- What follows for a tester. Assumes nothing.
use mathlib.Core.Path.{◌≡◌, refl, sym, ap, ◌∙◌}
use mathlib.Core.Bool.{Bool, true, false, cond, ◌&&◌, ◌||◌}
use mathlib.Core.List.{List, [], ◌∷◌, ◌++◌}
use Prim.Native.Nat.{ℕ, ◌+◌}
use borrow.Author.Tests.{eqb-true}
use lib.Dec.{eqb, ltb}
use lib.ListN.{length}
use Rattle.line.proofs.Runs.{and_left, and_right}
use Rattle.text.specs.Classes.{same_text}
use Rattle.clock.specs.declared.Clock.{Clock}
use Rattle.values.specs.Edition.{tables_of}
use Rattle.state.specs.declared.Facts.{Facts}
use Rattle.state.specs.Link.{is_wired}
use Rattle.state.specs.WellFormed.{factory_good}
use Rattle.state.specs.Making.{meter_of}
use Rattle.replies.specs.Shown.{row_of}
use Rattle.meter.specs.declared.Event.{Event}
use Rattle.meter.specs.declared.Event.TheVariants.{Character, Silence, Tick, Pulse, PowerUp, PulseOut, Unknown}
use Rattle.meter.specs.Life.{lived}
use Rattle.promises.proofs.Choices as choice
use Rattle.history.specs.Frames.{Write, clock, account, row, leaves, enters, tries, password_in, is_taken, write_in, write_of, is_frame, tells, data_in, clock_here, account_here, row_here}
use Rattle.history.specs.Past.{happens, past_of}
use Rattle.history.specs.Standing.{Standing, signs_on, asks_for_password, closes_period, is_whole, is_too_many, frame_by, refused_in, after_byte, standing}
use Rattle.history.specs.Deeds.{Deed, closed, wrote_all, by_byte, deeds_at, deeds, writes_of}
use Rattle.history.specs.Told.{account_told, tables_told}
use Rattle.told.specs.Claims.{Told, happened, writes_told}
use Rattle.told.specs.Corollaries.{right_now, right_ever, AccountAfter, stays, written, Corollaries}
use Rattle.told.proofs.Holding.{untrue}
use Rattle.told.proofs.Told.{nothing-but-told}
use Rattle.told.proofs.Rows.{told-good, rows_told}

-- ---- no right password, no programming

-- the mode is not 4
Apart : Standing → Type 0
Apart s = eqb s.mode 4 ≡ false

or_left : (p q : Bool) → (p || q) ≡ false → p ≡ false
or_left true q e = untrue (sym e)
or_left false q e = refl

or_right : (p q : Bool) → (p || q) ≡ false → q ≡ false
or_right true q e = untrue (sym e)
or_right false q e = e

byte-apart : (facts : Facts) (s : Standing) (b : ℕ) → Apart s → right_now facts s b ≡ false → Apart (after_byte facts s b)
unfolding Apart
byte-apart facts s b far never =
    choice.either Apart (eqb s.mode 0) (choice.either Apart (signs_on facts (s.said ++ (b ∷ []))) refl far)
    (choice.either Apart (eqb s.mode 1)
    (choice.either Apart (ltb (length (s.said ++ (b ∷ []))) 6) far (choice.either Apart (asks_for_password facts (s.said ++ (b ∷ []))) refl refl))
    (choice.given Apart (is_whole s)
    (λ w. choice.given Apart (eqb s.mode 2)
    (λ two. choice.either Apart (enters (frame_by s b)) refl
    (choice.given Apart (tries (frame_by s b))
    (λ t. choice.either Apart (eqb s.failed 3) refl
    (choice.given Apart (same_text (password_in (frame_by s b)) facts.password) (λ r. untrue (sym never ∙ all two w t r)) refl))
    refl))
    (choice.either Apart (leaves (frame_by s b)) refl (choice.either Apart (is_taken (tables_of facts.edition) facts.decimals s.mode (frame_by s b)) far fallen)))
    (choice.either Apart (is_too_many s b) fallen far)))
  where
    fallen : eqb (refused_in facts s.mode) 4 ≡ false
    fallen = unfold refused_in in (choice.either (λ (n : ℕ). eqb n 4 ≡ false) (is_wired facts.link || eqb s.mode 2) refl far)

    all : eqb s.mode 2 ≡ true → is_whole s ≡ true → tries (frame_by s b) ≡ true → same_text (password_in (frame_by s b)) facts.password ≡ true → right_now facts s b ≡ true
    all two w t r = rw (two, w, t, r)

past-apart : (facts : Facts) (past : List Event) → right_ever facts past ≡ false → Apart (standing facts past)
unfolding right_ever standing Apart
past-apart facts [] e = refl
past-apart facts (Character b ∷ past) e =
    byte-apart facts (standing facts past) b (past-apart facts past (or_right (right_now facts (standing facts past) b) _ e)) (or_left (right_now facts (standing facts past) b) _ e)
past-apart facts (Silence ∷ past) e = refl
past-apart facts (Tick ∷ past) e = past-apart facts past e
past-apart facts (Pulse units ∷ past) e = past-apart facts past e
past-apart facts (PulseOut units ∷ past) e = past-apart facts past e
past-apart facts (PowerUp ∷ past) e = refl
past-apart facts (Unknown ∷ past) e = past-apart facts past e

-- the writes of a byte, and no other event has any
byte-writes : (facts : Facts) (s : Standing) (b : ℕ) (ds : List Deed) → (eqb s.mode 4 && is_whole s) ≡ false → writes_of (by_byte facts s b ++ ds) ≡ writes_of ds
unfolding writes_of
byte-writes facts s b ds none = rw none (go (eqb s.mode 0 && closes_period facts (s.said ++ (b ∷ []))))
  where
    go : (p : Bool) → writes_of (cond p (closed ∷ []) [] ++ ds) ≡ writes_of ds
    go true = refl
    go false = refl

no_writes : (facts : Facts) (past : List Event) → right_ever facts past ≡ false → writes_of (deeds facts past) ≡ []
unfolding right_ever deeds deeds_at writes_of Apart
no_writes facts [] e = refl
no_writes facts (Character b ∷ past) e =
    let before = or_right (right_now facts (standing facts past) b) _ e in
    byte-writes facts (standing facts past) b (deeds facts past) (rw (past-apart facts past before)) ∙ no_writes facts past before
no_writes facts (Silence ∷ past) e = no_writes facts past e
no_writes facts (Tick ∷ past) e = no_writes facts past e
no_writes facts (Pulse units ∷ past) e = no_writes facts past e
no_writes facts (PulseOut units ∷ past) e = no_writes facts past e
no_writes facts (PowerUp ∷ past) e = no_writes facts past e
no_writes facts (Unknown ∷ past) e = no_writes facts past e

-- ---- one event more

past-snoc : (family : ℕ) (past : List Event) (es : List (ℕ × Event)) (room : ℕ) (e : Event)
    → past_of family past (es ++ ((room, e) ∷ [])) ≡ cond (happens family room e) (e ∷ past_of family past es) (past_of family past es)
unfolding past_of
past-snoc family past [] room e = refl
past-snoc family past ((r, x) ∷ es) room e = past-snoc family (cond (happens family r x) (x ∷ past) past) es room e

-- a frame tells one write or none
one-write : (P : List Write → Type 0) (tables : ℕ) (frame : List ℕ) → P [] → ((w : Write) → P (w ∷ [])) → P (write_in tables frame)
unfolding write_in write_of
one-write P tables frame none one =
    let d = data_in frame in
    choice.either P (is_frame (87 ∷ 49 ∷ []) frame)
    (choice.either P (tells tables d (clock_here d)) (one _) (choice.either P (tells tables d (account_here d)) (one _) (choice.either P (tells tables d (row_here tables d)) (one _) none)))
    none

module _ (facts : Facts) (account₀ : List ℕ) (clock₀ : Clock) (good : factory_good facts account₀ clock₀ ≡ true) where
  nothing-told : (es : List (ℕ × Event)) → Told facts account₀ clock₀ es
  nothing-told es = nothing-but-told facts account₀ clock₀ good es

  module _ (es : List (ℕ × Event)) (room : ℕ) (e : Event) where
    abbrev past : List Event
    past = happened facts es

    abbrev s : Standing
    s = standing facts past

    -- what is told of the account then
    then : (ws : List Write) → writes_of (deeds facts (cond (happens facts.decimals room e) (e ∷ past) past)) ≡ ws
        → (lived (meter_of facts account₀ clock₀) (es ++ ((room, e) ∷ []))).registers.account ≡ account_told account₀ ws
    then ws w = (nothing-told (es ++ ((room, e) ∷ []))).account-told ∙ ap (λ (p : List Event). account_told account₀ (writes_of (deeds facts p))) (past-snoc facts.decimals [] es room e) ∙ ap (account_told account₀) w

    same : (ws : List Write) → writes_of (deeds facts (cond (happens facts.decimals room e) (e ∷ past) past)) ≡ ws → account_told account₀ ws ≡ account_told account₀ (writes_told facts es)
        → AccountAfter facts account₀ clock₀ es room e
    same ws w k = stays (then ws w ∙ k ∙ sym (nothing-told es).account-told)

    -- an event that is no write
    idle : writes_of (deeds_at facts s e ++ deeds facts past) ≡ writes_told facts es → AccountAfter facts account₀ clock₀ es room e
    idle k = same _ (go (happens facts.decimals room e)) refl
      where
        go : (p : Bool) → writes_of (deeds facts (cond p (e ∷ past) past)) ≡ writes_told facts es
        go true = unfold deeds in k
        go false = refl

  module _ (es : List (ℕ × Event)) (room b : ℕ) where
    abbrev s' : Standing
    s' = standing facts (happened facts es)

    abbrev frame : List ℕ
    frame = frame_by s' b

    abbrev After : Type 0
    After = AccountAfter facts account₀ clock₀ es room (Character b)

    -- it makes a frame whole while programming mode stands
    told-then : (eqb s'.mode 4 && is_whole s') ≡ true → happens facts.decimals room (Character b) ≡ true → (ws : List Write) → write_in (tables_of facts.edition) frame ≡ ws
        → writes_of (deeds facts (cond (happens facts.decimals room (Character b)) (Character b ∷ happened facts es) (happened facts es))) ≡ writes_of (wrote_all ws ++ deeds facts (happened facts es))
    unfolding deeds deeds_at
    told-then k h ws e = rw (h, k, e)

    by-write : (eqb s'.mode 4 && is_whole s') ≡ true → happens facts.decimals room (Character b) ≡ true → (w : Write) → write_in (tables_of facts.edition) frame ≡ w ∷ [] → After
    unfolding wrote_all writes_of account_told
    by-write k h (clock c) e = same es room (Character b) _ (told-then k h _ e) refl
    by-write k h (account a) e =
        written b a refl h (eqb-true s'.mode 4 (and_left (eqb s'.mode 4) _ k)) (and_right (eqb s'.mode 4) _ k) e (then es room (Character b) _ (told-then k h _ e))
    by-write k h (row n r) e = same es room (Character b) _ (told-then k h _ e) refl

    after-byte : After
    after-byte = go (happens facts.decimals room (Character b)) refl (eqb s'.mode 4 && is_whole s') refl
      where
        go : (h : Bool) → happens facts.decimals room (Character b) ≡ h → (k : Bool) → (eqb s'.mode 4 && is_whole s') ≡ k → After
        go h x false y = idle es room (Character b) (unfold deeds_at in (byte-writes facts s' b (deeds facts (happened facts es)) y))
        go false x true y = same es room (Character b) _ (ap (λ (p : Bool). writes_of (deeds facts (cond p (Character b ∷ happened facts es) (happened facts es)))) x) refl
        go true x true y =
            one-write (λ (ws : List Write). write_in (tables_of facts.edition) frame ≡ ws → After) (tables_of facts.edition) frame
            (λ e. same es room (Character b) _ (told-then y x [] e) (unfold wrote_all in refl)) (λ w e. by-write y x w e) refl

  after-event : (es : List (ℕ × Event)) (room : ℕ) (e : Event) → AccountAfter facts account₀ clock₀ es room e
  unfolding deeds_at writes_of
  after-event es room (Character b) = after-byte es room b
  after-event es room Silence = idle es room Silence refl
  after-event es room Tick = idle es room Tick refl
  after-event es room (Pulse units) = idle es room (Pulse units) refl
  after-event es room (PulseOut units) = idle es room (PulseOut units) refl
  after-event es room PowerUp = idle es room PowerUp refl
  after-event es room Unknown = idle es room Unknown refl

  pub corollaries : Corollaries facts account₀ clock₀
  unfolding account_told tables_told
  corollaries =
      record {
        no-password = λ es e.
            let none = no_writes facts (happened facts es) e in
            record {
              same-account = (nothing-told es).account-told ∙ ap (account_told account₀) none;
              same_tables = (nothing-told es).tables-told ∙ ap (tables_told (meter_of facts account₀ clock₀).registers.tables) none;
            };
        only-by-write = after-event;
        same_writes = λ es es' e.
            record {
              same-account = (nothing-told es).account-told ∙ ap (account_told account₀) e ∙ sym (nothing-told es').account-told;
              same_tables = (nothing-told es).tables-told ∙ ap (tables_told (meter_of facts account₀ clock₀).registers.tables) e ∙ sym (nothing-told es').tables-told;
            };
        last-rows = λ es n good-n.
            ap (λ (t : List ℕ). row_of t n) (nothing-told es).tables-told ∙ rows_told facts.edition n good-n (writes_told facts es) (told-good facts (happened facts es));
      }
